-- How many groups there are up to an entry.
use Rattle.std.proofs.Common.{◌≡◌, ℕ, ◌+◌, ◌<◌, ◌≤◌, Bool, cond, List, [], ◌∷◌, length, take, Option, Some, None, refl, sym, ap, ◌∙◌}
use Rattle.std.specs.Prelude.{is_some, slice_get}
use Rattle.std.specs.List.{filter_map}
use Rattle.std.proofs.lemmas.List.{length-append, take_all}
use Rattle.std.proofs.lemmas.List.Elements.{filter_map-append}
use Rattle.dia_book.specs.Dictionary.{DictEntry, Dictionary, PlainDefinition, groups, group_place}
use Rattle.dia_valid.proofs.GroupNumbers.{group_missing, group_there}
use Rattle.dia_valid.proofs.GroupNumbers as numbers
use Rattle.dia_valid.proofs.Members.{taken, there_is}

abbrev pub number_of : Dictionary → ℕ → ℕ
number_of d i = numbers.number_of d i

one_group : (o : Option PlainDefinition) (e : DictEntry) → e.group ≡ o → length (filter_map (λ (x : DictEntry). x.group) (e ∷ [])) ≡ cond (is_some o) 1 0
one_group None e is = ap (λ (o : Option PlainDefinition). length (filter_map (λ (x : Option PlainDefinition). x) (o ∷ []))) is
one_group (Some g) e is = ap (λ (o : Option PlainDefinition). length (filter_map (λ (x : Option PlainDefinition). x) (o ∷ []))) is

more : (d : Dictionary) (i : ℕ) (e : DictEntry) → slice_get d.entries i ≡ Some e → number_of d (i + 1) ≡ number_of d i + cond (is_some e.group) 1 0
more d i e at =
    ap (λ (es : List DictEntry). length (filter_map (λ (x : DictEntry). x.group) es)) (taken d.entries i e at)
    ∙ ap length (filter_map-append (λ (x : DictEntry). x.group) (take i d.entries) (e ∷ []))
    ∙ length-append (filter_map (λ (x : DictEntry). x.group) (take i d.entries)) (filter_map (λ (x : DictEntry). x.group) (e ∷ []))
    ∙ ap (λ n. number_of d i + n) (one_group e.group e refl)

place_is_some : (d : Dictionary) (i : ℕ) (e : DictEntry) → slice_get d.entries i ≡ Some e → is_some (group_place d i) ≡ is_some e.group
place_is_some d i e at = by e.group refl
  where
    by : (o : Option PlainDefinition) → e.group ≡ o → is_some (group_place d i) ≡ is_some o
    by None is = ap is_some (group_missing d i e at is)
    by (Some g) is = ap is_some (group_there d i e g at is).0

-- one group more, or none
pub number_more : (d : Dictionary) (i : ℕ) (b : Bool) → i < length d.entries → is_some (group_place d i) ≡ b → number_of d (i + 1) ≡ number_of d i + cond b 1 0
number_more d i b within is =
    let x = there_is d.entries i within in
    more d i x.0 x.1 ∙ ap (λ (b : Bool). number_of d i + cond b 1 0) (sym (place_is_some d i x.0 x.1) ∙ is)

pub number_of_all : (d : Dictionary) (i : ℕ) → length d.entries ≤ i → number_of d i ≡ length (groups d)
number_of_all d i all = ap (λ (es : List DictEntry). length (filter_map (λ (x : DictEntry). x.group) es)) (take_all i d.entries all)
