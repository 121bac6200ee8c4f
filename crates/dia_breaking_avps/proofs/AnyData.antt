-- Data of any form that is accepted.
use Rattle.std.specs.Option.{option_map_or}
use Rattle.std.proofs.Common.{◌≡◌, ℕ, List, [], Option, Some, None, sym, ap, subst, ◌∙◌, inl, inr}
use Rattle.std.specs.Prelude.{◌⊎◌, is_some, IsSome, option_and_then}
use Rattle.std.proofs.lemmas.Bool.{both_ways}
use Rattle.std.proofs.lemmas.Option.{none-some, same_Some}
use Rattle.dia_wire.specs.declared.Key.{Key}
use Rattle.dia_data.specs.Leaf.{IsLeaf}
use Rattle.dia_data.specs.Plain.{Address}
use Rattle.dia_book.specs.Dictionary.{Dictionary, DictEntry, PlainDefinition}
use Rattle.dia_valid.specs.Valid.{known}
use Rattle.dia_terms.specs.declared.sends.Sends.{Sends}
use Rattle.dia_breaking_avps.specs.declared.breaking.DataBreak.{DataBreak}
use Rattle.dia_breaking_avps.specs.declared.breaking.DataBreak.TheVariants.{Fits}
use Rattle.dia_breaking_avps.specs.Answers.{IsLevelBreak}
use Rattle.dia_breaking_avps.specs.Breaks.{TakesLevels}
use Rattle.dia_breaking_avps.specs.Levels.{AreAddresses}
use Rattle.dia_breaking_avps.specs.Sent.{group_of}

pub takes_any : (da d : Dictionary) (who : Sends) (key : Key) (group : ℕ) (x : PlainDefinition) (e : DictEntry) (found : DataBreak) → group_of da key ≡ Some x → known d key ≡ Some e
    → IsLevelBreak da d who group x.rules e found → found ≡ Fits → TakesLevels da d who key
takes_any da d who key group x e found has is breaks fits = by (subst (λ (f : DataBreak). IsLevelBreak da d who group x.rules e f) fits breaks)
  where
    by : (e.group ≡ None) × (((bytes : List ℕ) → IsLeaf e.format bytes) ⊎ ((e.format ≡ Address) × AreAddresses da who x.rules)) → TakesLevels da d who key
    by (leaf, inl all) = inl (λ y known_y. subst (λ (z : DictEntry). (z.group ≡ None) × ((bytes : List ℕ) → IsLeaf z.format bytes)) (same_Some e y (sym is ∙ known_y)) (leaf, all))
    by (leaf, inr (address, ours)) = inr (
      ap (λ (o : Option PlainDefinition). is_some o) has,
      (e, is, leaf, (address, subst (λ (o : Option PlainDefinition). AreAddresses da who (option_map_or (λ (y : PlainDefinition). y.rules) o [])) (sym has) ours)),
    )

pub takes_unknown : (da d : Dictionary) (who : Sends) (key : Key) → known d key ≡ None → TakesLevels da d who key
takes_unknown da d who key none = inl (λ e is. absurd (none-some e (sym none ∙ is)))

pub no_levels : (d : Dictionary) (key : Key) (e : DictEntry) → known d key ≡ Some e → e.group ≡ None → IsSome (group_of d key) → ⊥
no_levels d key e is leaf some = both_ways (is_some (group_of d key)) (ap (λ (o : Option DictEntry). is_some (option_and_then (λ (x : DictEntry). x.group) o)) is ∙ ap (λ (o : Option PlainDefinition). is_some o) leaf) some

pub no_levels_unknown : (d : Dictionary) (key : Key) → known d key ≡ None → IsSome (group_of d key) → ⊥
no_levels_unknown d key none some = both_ways (is_some (group_of d key)) (ap (λ (o : Option DictEntry). is_some (option_and_then (λ (x : DictEntry). x.group) o)) none) some
