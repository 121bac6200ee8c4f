-- AVPs of a key break nothing by themselves exactly where what is found of them is silent.
use Rattle.std.proofs.Common.{◌≡◌, ℕ, Bool, true, false, List, [], ◌∷◌, ◌++◌, length, Option, Some, None, refl, sym, ap, subst, ◌∙◌, arith, inl, inr}
use Rattle.std.specs.Prelude.{◌⊎◌, ◌↔◌, is_some, IsSome, option_and_then}
use Rattle.std.specs.Str.{chars, is_utf8}
use Rattle.std.proofs.lemmas.Bool.{both_ways}
use Rattle.std.proofs.lemmas.Option.{same_Some}
use Rattle.std.proofs.lemmas.List.{length-append}
use Rattle.std.proofs.lemmas.Str.{is_utf8-from_IsUtf8}
use Rattle.dia_wire.specs.declared.Key.{Key}
use Rattle.dia_data.specs.Leaf.{IsLeaf, IsAddress}
use Rattle.dia_data.specs.Plain.{PlainFormat, EightBytes, Address, Utf8String}
use Rattle.dia_book.specs.declared.DRule.{DRule}
use Rattle.dia_book.specs.Dictionary.{Dictionary, DictEntry, PlainDefinition}
use Rattle.dia_valid.specs.Valid.{known}
use Rattle.dia_terms.specs.declared.Unknown.{Unknown}
use Rattle.dia_terms.specs.declared.Sends.{Sends}
use Rattle.dia_breaking_avps.specs.declared.breaking.AvpBreaks.{AvpBreaks}
use Rattle.dia_breaking_avps.specs.declared.breaking.HeadBreak.{HeadBreak}
use Rattle.dia_breaking_avps.specs.declared.breaking.HeadBreak.TheVariants.{Unknown as UnknownAvp, MBit}
use Rattle.dia_breaking_avps.specs.declared.breaking.DataBreak.{DataBreak}
use Rattle.dia_breaking_avps.specs.declared.breaking.DataBreak.TheVariants.{Fits, Groups, Data, LeastLevel, EightBytes, Undecided}
use Rattle.dia_breaking_avps.specs.Breaks.{AcceptsFlags, RefusesFlag, IsDataBreak, IsHeadBreak, IsLevelForLeaf, IsSilent, IsSilentData, TakesLevels}
use Rattle.dia_breaking_avps.specs.Levels.{empty, AreAddresses, HasEightBytes, IsUndecided, RefusesLeastLevel}
use Rattle.dia_breaking_avps.specs.Sent.{HasGroup, group_of, group_rules}
use Rattle.dia_breaking.specs.Taken.{AreGroups, IsDataTaken}
use Rattle.dia_breaking.specs.Recording.{BreaksNothing}

pub has_group : (d : Dictionary) (key : Key) (n : ℕ) → HasGroup d key n → IsSome (group_of d key)
has_group d key n (group, is, at) = ap (λ (o : Option PlainDefinition). is_some o) is

no_leaf : (d : Dictionary) (key : Key) (e : DictEntry) → known d key ≡ Some e → e.group ≡ None → IsSome (group_of d key) → ⊥
no_leaf d key e is leaf some =
    both_ways (is_some (group_of d key)) (ap (λ (o : Option DictEntry). is_some (option_and_then (λ (x : DictEntry). x.group) o)) is ∙ ap (λ (o : Option PlainDefinition). is_some o) leaf) some

no_address : IsAddress [] → ⊥
no_address is =
    let whole : 0 ≡ length (is.family ++ is.rest) = ap (λ (bytes : List ℕ). length bytes) is.parts in
    let both = length-append is.family is.rest in
    let width = is.width in
    omega (arith, whole, both, width)

no_text : is_utf8 (255 ∷ []) ≡ false
unfolding is_utf8 chars
no_text = refl

-- ---- what is said of levels that are read as leaves, and that B takes any data, are not both so

least_all : (rules : List DRule) (format : PlainFormat) → RefusesLeastLevel rules format → ((bytes : List ℕ) → IsLeaf format bytes) → ⊥
least_all rules Address refuses all = no_address (all [])
least_all rules format refuses all = refuses [] [] refl empty (all [])

eight_all : (format : PlainFormat) → HasEightBytes format → ((bytes : List ℕ) → IsLeaf format bytes) → ⊥
eight_all (EightBytes name) has all = let e : 0 ≡ 8 = all [] in omega (arith, e)
eight_all format has all = absurd has

undecided_all : (d : Dictionary) (who : Sends) (rules : List DRule) (format : PlainFormat) → IsUndecided d who rules format → ((bytes : List ℕ) → IsLeaf format bytes) → ⊥
undecided_all d who rules Address may all = no_address (all [])
undecided_all d who rules Utf8String may all = both_ways (is_utf8 (255 ∷ [])) no_text (is_utf8-from_IsUtf8 (255 ∷ []) (all (255 ∷ [])))
undecided_all d who rules format may all = absurd may

module _ (da db : Dictionary) (who : Sends) (u : Unknown) (key : Key) where
  -- ---- what is silent breaks nothing

  pub taken_by_silent : (found : DataBreak) → IsDataBreak da db who u key found → (IsSome (group_of da key) → found ≡ Fits → TakesLevels da db who key) → IsSilentData found
      → AreGroups da db key ⊎ IsDataTaken da db who u key
  taken_by_silent Fits content levels silent = inr (content, λ group. levels group refl)
  taken_by_silent (Groups a b) content levels silent = inl (has_group da key a content.0, has_group db key b content.1)
  taken_by_silent (Data found) content levels silent = absurd silent
  taken_by_silent LeastLevel content levels silent = absurd silent
  taken_by_silent EightBytes content levels silent = absurd silent
  taken_by_silent Undecided content levels silent = absurd silent

  -- ---- what breaks nothing is silent

  refused_flag : (m : Bool) → RefusesFlag da db who u key m → AcceptsFlags da db who u key → ⊥
  refused_flag true refuses accepts = let r = refuses 64 (λ e. let bad : 64 ≡ 0 = e in omega (arith, bad)) in r.1 (accepts 64 r.0)
  refused_flag false refuses accepts = let r = refuses 0 (λ set. set refl) in r.1 (accepts 0 r.0)

  pub no_head : (found : Option HeadBreak) → IsHeadBreak da db who u key found → AcceptsFlags da db who u key → found ≡ None
  no_head None is accepts = refl
  no_head (Some (UnknownAvp m)) is accepts = absurd (refused_flag m is.1.0 accepts)
  no_head (Some (MBit m)) is accepts = absurd (refused_flag m is.1.0 accepts)

  module _ (P : List DRule → PlainFormat → Type 0) (not_any : (rules : List DRule) (format : PlainFormat) → P rules format → ((bytes : List ℕ) → IsLeaf format bytes) → ⊥)
      (not_ours : (rules : List DRule) → P rules Address → AreAddresses da who rules → ⊥) where
    not_taken : IsLevelForLeaf da db key P → TakesLevels da db who key → ⊥
    not_taken (group, (e, known_e, leaf, has)) (inl any) = not_any (group_rules da key) e.format has (any e known_e).1
    not_taken (group, (e, known_e, leaf, has)) (inr (too, (f, known_f, leaf_f, (address, ours)))) =
        let entry : e ≡ f = same_Some e f (sym known_e ∙ known_f) in
        not_ours (group_rules da key) (subst (P (group_rules da key)) (ap (λ (z : DictEntry). z.format) entry ∙ address) has) ours

    not_both : IsLevelForLeaf da db key P → AreGroups da db key ⊎ IsDataTaken da db who u key → ⊥
    not_both (group, (e, known_e, leaf, has)) (inl both) = no_leaf db key e known_e leaf both.1
    not_both (group, e) (inr taken) = not_taken (group, e) (taken.1 group)

  pub silent_by_taken : (found : DataBreak) → IsDataBreak da db who u key found → AreGroups da db key ⊎ IsDataTaken da db who u key → IsSilentData found
  silent_by_taken Fits content takes = tt
  silent_by_taken (Groups a b) content takes = tt
  silent_by_taken (Data found) content (inl both) = both_ways (is_some (group_of da key)) (ap (λ (o : Option PlainDefinition). is_some o) content.0) both.0
  silent_by_taken (Data found) content (inr taken) = let shortest = content.1 in shortest.refused (taken.0 _ shortest.are_bytes shortest.sent)
  silent_by_taken LeastLevel content takes = not_both RefusesLeastLevel least_all (λ rules asks ours. ours.0 asks) content takes
  silent_by_taken EightBytes content takes = not_both (λ rules format. HasEightBytes format) (λ rules format has. eight_all format has) (λ rules none ours. none) content takes
  silent_by_taken Undecided content takes = not_both (IsUndecided da who) (undecided_all da who) (λ rules may ours. may.1 ours.1) content takes

  pub exactly_silent : (breaks : AvpBreaks) (b : Bool) → IsHeadBreak da db who u key breaks.head → IsDataBreak da db who u key breaks.data
      → (IsSome (group_of da key) → breaks.data ≡ Fits → TakesLevels da db who key) → (b ≡ false → IsSilent breaks) → (IsSilent breaks → b ≡ false)
      → (b ≡ false) ↔ BreaksNothing da db who u key
  exactly_silent breaks b head content levels silent heard = (
    λ e. let s = silent e in (subst (λ (o : Option HeadBreak). IsHeadBreak da db who u key o) s.0 head, taken_by_silent breaks.data content levels s.1),
    λ nothing. heard (no_head breaks.head head nothing.0, silent_by_taken breaks.data content nothing.1),
  )
