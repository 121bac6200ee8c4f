-- The definitions of groups that a dictionary answers are in range.
use Rattle.std.proofs.Common.{◌≡◌, ℕ, ◌<◌, length, Option, Some, ◌∙◌}
use Rattle.std.specs.Prelude.{IfSome}
use Rattle.std.proofs.lemmas.Option.{slice_get_within}
use Rattle.dia_wire.specs.declared.Key.{Key}
use Rattle.dia_book.specs.Dictionary.{Dictionary, definitions, entry_of, group_place}
use Rattle.dia_valid.proofs.KnownKeys.{known_by_entry}
use Rattle.dia_valid.proofs.GroupNumbers.{group_number}
use Rattle.dia_valid.proofs.Members.{when_some}

pub group_within : (d : Dictionary) (key : Key) (i : ℕ) (o : Option ℕ) → entry_of d key ≡ Some i → group_place d i ≡ o → IfSome o (λ n. n < length (definitions d))
group_within d key i o at is = when_some (λ (n : ℕ). n < length (definitions d)) o (λ n e.
    let k = known_by_entry d key i at in
    let r = group_number d i n k.0 k.1 (is ∙ e) in
    slice_get_within (definitions d) n r.0 r.2)
