-- The entry of a key that a dictionary knows.
use Rattle.std.proofs.Common.{◌≡◌, ℕ, Option, Some, None, sym, ap, ◌∙◌, inl, inr}
use Rattle.std.specs.Prelude.{◌⊎◌, slice_get, option_and_then}
use Rattle.std.proofs.lemmas.Option.{same_Some}
use Rattle.dia_wire.specs.declared.Key.{Key}
use Rattle.dia_book.specs.Keys.{same_key}
use Rattle.dia_book.specs.Dictionary.{Dictionary, DictEntry, entry_of}
use Rattle.dia_valid.specs.Valid.{known}
use Rattle.dia_valid.proofs.Searches.{Found, NotFound, found_or_not}

pub known_by_entry : (d : Dictionary) (key : Key) (i : ℕ) → entry_of d key ≡ Some i → (e : DictEntry) × (slice_get d.entries i ≡ Some e) × (known d key ≡ Some e)
known_by_entry d key i at = by (found_or_not (λ (e : DictEntry). same_key key e.key) d.entries)
  where
    by : Found (λ (e : DictEntry). same_key key e.key) d.entries ⊎ NotFound (λ (e : DictEntry). same_key key e.key) d.entries
        → (e : DictEntry) × (slice_get d.entries i ≡ Some e) × (known d key ≡ Some e)
    by (inl f) =
        let same : f.place ≡ i = same_Some f.place i (sym f.is_place ∙ at) in
        let there = ap (slice_get d.entries) (sym same) ∙ f.at in
        (f.item, there, ap (λ (o : Option ℕ). option_and_then (λ (n : ℕ). slice_get d.entries n) o) at ∙ there)
    by (inr n) = absurd (let e : None ≡ Some i = sym n.is_none ∙ at in cc)
