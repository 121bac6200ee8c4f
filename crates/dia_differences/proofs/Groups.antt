-- The definitions of groups and commands, by their numbers.
use Rattle.std.proofs.Common.{◌≡◌, ℕ, ◌<◌, ◌≤◌, length, take, Option, None, sym, ap, ◌∙◌}
use Rattle.std.specs.Prelude.{IfSome, option_and_then}
use Rattle.std.specs.List.{filter_map}
use Rattle.std.specs.Option.{option_map}
use Rattle.std.proofs.lemmas.Option.{slice_get_past, slice_get_within}
use Rattle.dia_book.specs.Dictionary.{Dictionary, DictEntry, definitions, group_place}
use Rattle.dia_valid.proofs.Entries.{group_definition}
use Rattle.dia_valid.proofs.Members.{there_is, when_some}

pub group_within : (d : Dictionary) (i : ℕ) (o : Option ℕ) → i < length d.entries → o ≡ group_place d i → IfSome o (λ n. n < length (definitions d))
group_within d i o within is = when_some (λ (n : ℕ). n < length (definitions d)) o (λ n e.
    let (entry, at) = there_is d.entries i within in
    let (x, some, here) = group_definition d i entry at n (sym e ∙ is) in
    slice_get_within (definitions d) n x here)

-- no definition past the last entry
pub none_past : (d : Dictionary) (i : ℕ) → length d.entries ≤ i → None ≡ group_place d i
none_past d i past = sym (ap (λ (o : Option DictEntry). option_and_then (λ x. option_map (λ _. length (filter_map (λ (y : DictEntry). y.group) (take i d.entries))) x.group) o) (slice_get_past d.entries i past))
