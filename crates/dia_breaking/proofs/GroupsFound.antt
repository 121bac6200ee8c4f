-- The number that is found for a group is that of its definition.
use Rattle.std.proofs.Common.{◌≡◌, ℕ, Option, Some, None, refl, sym, ap, ◌∙◌}
use Rattle.std.specs.Prelude.{slice_get, option_and_then}
use Rattle.dia_wire.specs.declared.Key.{Key}
use Rattle.dia_book.specs.Dictionary.{Dictionary, DictEntry, PlainDefinition, definitions, entry_of, group_place}
use Rattle.dia_valid.specs.Valid.{known}
use Rattle.dia_valid.proofs.GroupNumbers.{group_there, group_missing}
use Rattle.dia_valid.proofs.KnownKeys.{known_by_entry}
use Rattle.dia_breaking_avps.specs.Sent.{group_of}

pub group_found : (d : Dictionary) (key : Key) (i : ℕ) (r : Option ℕ) → entry_of d key ≡ Some i → r ≡ group_place d i → option_and_then (λ (def : ℕ). slice_get (definitions d) def) r ≡ group_of d key
group_found d key i r at is = by k.0.group refl
  where
    k : (e : DictEntry) × (slice_get d.entries i ≡ Some e) × (known d key ≡ Some e)
    k = known_by_entry d key i at

    group_is : group_of d key ≡ k.0.group
    group_is = ap (option_and_then (λ (e : DictEntry). e.group)) k.2

    by : (o : Option PlainDefinition) → k.0.group ≡ o → option_and_then (λ (def : ℕ). slice_get (definitions d) def) r ≡ group_of d key
    by None h =
        ap (option_and_then (λ (def : ℕ). slice_get (definitions d) def)) (is ∙ group_missing d i k.0 k.1 h) ∙ sym (group_is ∙ h)
    by (Some g) h =
        let there = group_there d i k.0 g k.1 h in
        ap (option_and_then (λ (def : ℕ). slice_get (definitions d) def)) (is ∙ there.0) ∙ there.1 ∙ sym (group_is ∙ h)
