-- The AVPs of an error message fit the dictionary with Failed-AVP as octets.
use Rattle.std.proofs.Common.{◌≡◌, ◌≢◌, ℕ, zero, suc, ◌<◌, Bool, true, false, List, [], ◌∷◌, length, map, Option, Some, None, inl, inr, refl, sym, ap, subst, ◌∙◌, arith}
use Rattle.std.specs.Prelude.{◌⊎◌, ◌↔◌, find, slice_get, IfSome, IsSome, MatchOption, option_and_then}
use Rattle.std.specs.List.{AllByRecursion}
use Rattle.std.specs.Option.{option_map_or}
use Rattle.std.specs.Str.{IsUtf8}
use Rattle.std.proofs.lemmas.Bool.{eq-eqb}
use Rattle.std.proofs.lemmas.Option.{none-some, same_Some, slice_get_within}
use Rattle.dia_wire.specs.declared.Key.{Key}
use Rattle.dia_wire.specs.Wire.{PlainAvp, key_of}
use Rattle.dia_data.specs.Leaf.{IsLeaf}
use Rattle.dia_data.specs.Plain.{PlainFormat, AnyBytes, Address, DiameterIdentity, DiameterUri, EightBytes, Enumerated, FourBytes, Grouped, OctetString, Utf8String}
use Rattle.dia_book.specs.declared.MRule.{MRule}
use Rattle.dia_book.specs.declared.MRule.TheVariants.{Must, MustNot, Any}
use Rattle.dia_book.specs.declared.DRule.{DRule}
use Rattle.dia_book.specs.Keys.{same_key}
use Rattle.dia_book.specs.Dictionary.{Dictionary, DictEntry, PlainDefinition, IsDictionary, entry_of, group_place}
use Rattle.dia_book.proofs.SameKeys.{same_key-true}
use Rattle.dia_terms.specs.declared.Unknown.{Unknown}
use Rattle.dia_terms.specs.declared.Levels.{Levels}
use Rattle.dia_terms.specs.declared.Levels.TheVariants as levels
use Rattle.dia_valid.specs.Valid.{known, AllFit, Fits, IsLevel, MHolds}
use Rattle.dia_valid.proofs.Entries.{all_at, not_known}
use Rattle.dia_valid.proofs.GroupNumbers.{group_there, number_of}
use Rattle.dia_valid.proofs.KnownKeys.{known_by_entry}
use Rattle.dia_valid.proofs.Members.{all_map}
use Rattle.dia_answer.specs.Dictionaries.{failed_avp, grouped_failed, opaque, opaque_at}
use Rattle.dia_answer.specs.Stocks.{IsFitOf, TakesData, copied, error_message, has_format, is_nest, is_text, m_flag, own, rule_flag}
use Rattle.dia_answer.specs.Bodies.{IsSession, proxy_info, session_id}
use Rattle.dia_answer.specs.OwnErrors.{HasFormat}
use Rattle.dia_answer.proofs.Octets.{from_rule}
use Rattle.dia_answer.proofs.OctetsLookups.{at_within, entries_many, entry_same, hidden_entry, old_entry}
use Rattle.dia_answer.proofs.Strict.{IsAsSaid, known_other, no_group, one_copied, place_is}

-- ---- Failed-AVP as octets

-- the entry of a group that is octets now
abbrev IsOctetsOf : DictEntry → DictEntry → Type 0
IsOctetsOf y x = (x.rule ≡ y.rule) × (x.format ≡ AnyBytes OctetString) × (x.group ≡ None)

grouped_takes_any : (d : Dictionary) (place : ℕ × ℕ) (y : DictEntry) → grouped_failed d ≡ Some place → known d failed_avp ≡ Some y
    → (x : DictEntry) × (known (opaque_at d (Some place)) failed_avp ≡ Some x) × IsOctetsOf y x
grouped_takes_any d place y is some =
    let o : Option (ℕ × ℕ) = Some place in
    let at = place_is d place is in
    let there : slice_get d.entries place.0 ≡ Some y = ap (option_and_then (λ (j : ℕ). slice_get d.entries j)) (sym at) ∙ some in
    let within : place.0 < length (opaque_at d o).entries = omega (arith, slice_get_within d.entries place.0 y there, entries_many d o) in
    let here = at_within (opaque_at d o).entries place.0 within in
    let x = here.0 in
    let from = old_entry d o place.0 x here.1 in
    let same : from.0 ≡ y = same_Some from.0 y (sym from.1 ∙ there) in
    let octets = hidden_entry d o place.0 x (eq-eqb place.0 place.0 refl) here.1 in (
      x,
      ap (option_and_then (λ (j : ℕ). slice_get (opaque_at d o).entries j)) (entry_same d o failed_avp ∙ at) ∙ here.1,
      (sym (from_rule from.0 x from.2) ∙ ap (λ (z : DictEntry). z.rule) same, octets.0, octets.1),
    )

-- ---- what fits fits with Failed-AVP as octets

said_more : (u : Unknown) (P Q : List DRule → List ℕ → Type 0) (flags : ℕ) (bytes : List ℕ) (o : Option DictEntry) → ((rules : List DRule) → P rules bytes → Q rules bytes) → IsAsSaid u P flags bytes o → IsAsSaid u Q flags bytes o
said_more u P Q flags bytes None f h = h
said_more u P Q flags bytes (Some e) f h = (h.0, by e.group h.1)
  where
    by : (g : Option PlainDefinition) → MatchOption g (IsLeaf e.format bytes) (λ group. P group.rules bytes) → MatchOption g (IsLeaf e.format bytes) (λ group. Q group.rules bytes)
    by None k = k
    by (Some group) k = f group.rules k

octets_said : (u : Unknown) (P Q : List DRule → List ℕ → Type 0) (flags : ℕ) (bytes : List ℕ) (y x : DictEntry) → IsOctetsOf y x → IsAsSaid u P flags bytes (Some y) → IsAsSaid u Q flags bytes (Some x)
octets_said u P Q flags bytes y x (rule, format, group) h = (
  subst (λ (r : MRule). MHolds r flags) (sym rule) h.0,
  subst (λ (g : Option PlainDefinition). MatchOption g (IsLeaf x.format bytes) (λ group. Q group.rules bytes)) (sym group) (subst (λ (f : PlainFormat). IsLeaf f bytes) (sym format) tt),
)

module _ (d : Dictionary) (u : Unknown) where
  failed_said : (P Q : List DRule → List ℕ → Type 0) (flags : ℕ) (bytes : List ℕ) (o : Option (ℕ × ℕ)) → grouped_failed d ≡ o → ((rules : List DRule) → P rules bytes → Q rules bytes)
      → IsAsSaid u P flags bytes (known d failed_avp) → IsAsSaid u Q flags bytes (known (opaque_at d o) failed_avp)
  failed_said P Q flags bytes None is f h = said_more u P Q flags bytes (known d failed_avp) f h
  failed_said P Q flags bytes (Some place) is f h = by (known d failed_avp) refl h
    where
      by : (o : Option DictEntry) → known d failed_avp ≡ o → IsAsSaid u P flags bytes o → IsAsSaid u Q flags bytes (known (opaque_at d (Some place)) failed_avp)
      by None none k = absurd (let at = place_is d place is in let here = known_by_entry d failed_avp place.0 at in none-some here.0 (sym none ∙ here.2))
      by (Some y) some k = let x = grouped_takes_any d place y is some in subst (IsAsSaid u Q flags bytes) (sym x.1) (octets_said u P Q flags bytes y x.0 x.2 k)

  said_opaque : (P Q : List DRule → List ℕ → Type 0) (v : PlainAvp) → ((rules : List DRule) → P rules v.bytes → Q rules v.bytes)
      → IsAsSaid u P v.flags v.bytes (known d (key_of v)) → IsAsSaid u Q v.flags v.bytes (known (opaque d) (key_of v))
  said_opaque P Q v f h = by (same_key failed_avp (key_of v)) refl
    where
      by : (b : Bool) → same_key failed_avp (key_of v) ≡ b → IsAsSaid u Q v.flags v.bytes (known (opaque d) (key_of v))
      by false other = subst (IsAsSaid u Q v.flags v.bytes) (sym (known_other d (key_of v) other)) (said_more u P Q v.flags v.bytes (known d (key_of v)) f h)
      by true same =
          let is = same_key-true failed_avp (key_of v) same in
          subst (λ (k : Key). IsAsSaid u Q v.flags v.bytes (known (opaque d) k)) is
          (failed_said P Q v.flags v.bytes (grouped_failed d) refl f (subst (λ (k : Key). IsAsSaid u P v.flags v.bytes (known d k)) (sym is) h))

  pub fits_opaque : (n : ℕ) (v : PlainAvp) → Fits d u n v → Fits (opaque d) u n v
  fits_opaque zero v h = said_opaque (λ rules bytes. ⊥) (λ rules bytes. ⊥) v (λ rules bad. bad) h
  fits_opaque (suc n) v h = said_opaque (IsLevel (Fits d u n)) (IsLevel (Fits (opaque d) u n)) v
      (λ rules lv. (lv.0, lv.1, lv.2, all_map (Fits d u n) (Fits (opaque d) u n) (fits_opaque n) lv.0 lv.3)) h

  one_opaque : (most : Levels) (v : PlainAvp) → AllFit d u most (v ∷ []) → AllFit (opaque d) u most (v ∷ [])
  one_opaque levels.Any v (n, (fits, end)) = (n, (fits_opaque n v fits, tt))
  one_opaque (levels.AtMost n) v (fits, end) = (fits_opaque n v fits, tt)

  -- ---- AVPs that are made

  -- data of an entry that is no group
  leaf_fits : (e : DictEntry) (v : PlainAvp) → known d (key_of v) ≡ Some e → e.group ≡ None → MHolds e.rule v.flags → IsLeaf e.format v.bytes → (n : ℕ) → Fits d u n v
  leaf_fits e v some none m leaf n = by n
    where
      said : (P : List DRule → List ℕ → Type 0) → IsAsSaid u P v.flags v.bytes (known d (key_of v))
      said P = subst (IsAsSaid u P v.flags v.bytes) (sym some) (m, subst (λ (g : Option PlainDefinition). MatchOption g (IsLeaf e.format v.bytes) (λ group. P group.rules v.bytes)) (sym none) leaf)

      by : (n : ℕ) → Fits d u n v
      by zero = said (λ rules bytes. ⊥)
      by (suc n) = said (IsLevel (Fits d u n))

  for_all : (most : Levels) (v : PlainAvp) → ((n : ℕ) → Fits d u n v) → AllFit d u most (v ∷ [])
  for_all levels.Any v h = (0, (h 0, tt))
  for_all (levels.AtMost n) v h = (h n, tt)

  m_holds : (r : MRule) → MHolds r (rule_flag r)
  m_holds Must = λ (e : 64 ≡ 0). absurd cc
  m_holds MustNot = λ m. m refl
  m_holds Any = tt

  own_holds : (key : Key) (e : DictEntry) → known d key ≡ Some e → MHolds e.rule (m_flag d key)
  own_holds key e some = subst (MHolds e.rule) (ap (λ (o : Option DictEntry). option_map_or (λ (x : DictEntry). rule_flag x.rule) o 64) (sym some)) (m_holds e.rule)

-- an AVP that fits, also with Failed-AVP as octets
abbrev pub FitsAlone : Dictionary → Unknown → Levels → PlainAvp → Type 0
FitsAlone d u most v = AllFit (opaque d) u most (v ∷ [])

nest_leaf : (f : PlainFormat) (bytes : List ℕ) → is_nest f ≡ true → f ≢ Grouped → IsLeaf f bytes
nest_leaf (AnyBytes name) bytes is other = tt
nest_leaf (FourBytes name) bytes is other = absurd cc
nest_leaf (EightBytes name) bytes is other = absurd cc
nest_leaf Grouped bytes is other = absurd (other refl)
nest_leaf Address bytes is other = absurd cc
nest_leaf Utf8String bytes is other = absurd cc
nest_leaf DiameterIdentity bytes is other = absurd cc
nest_leaf DiameterUri bytes is other = absurd cc
nest_leaf (Enumerated ranges) bytes is other = absurd cc

text_leaf : (f : PlainFormat) (bytes : List ℕ) → is_text f ≡ true → IsUtf8 bytes → IsLeaf f bytes
text_leaf (AnyBytes name) bytes is text = tt
text_leaf (FourBytes name) bytes is text = absurd cc
text_leaf (EightBytes name) bytes is text = absurd cc
text_leaf Grouped bytes is text = absurd cc
text_leaf Address bytes is text = absurd cc
text_leaf Utf8String bytes is text = text
text_leaf DiameterIdentity bytes is text = absurd cc
text_leaf DiameterUri bytes is text = absurd cc
text_leaf (Enumerated ranges) bytes is text = absurd cc

clear_holds : (r : MRule) → r ≢ Must → MHolds r 0
clear_holds Must other = absurd (other refl)
clear_holds MustNot other = λ m. m refl
clear_holds Any other = tt

module _ (d : Dictionary) (is : IsDictionary d) (u : Unknown) (most : Levels) where
  made_fits : (e : DictEntry) (v : PlainAvp) → known d (key_of v) ≡ Some e → e.group ≡ None → MHolds e.rule v.flags → IsLeaf e.format v.bytes → FitsAlone d u most v
  made_fits e v some none m leaf = one_opaque d u most v (for_all d u most v (leaf_fits d u e v some none m leaf))

  pub own_fits : (code : ℕ) (bytes : List ℕ) (f : PlainFormat) → HasFormat d (record { code = code; vendor = 0 }) f → f ≢ Grouped → IsLeaf f bytes → FitsAlone d u most (own d code bytes)
  own_fits code bytes f (e, some, format) other leaf =
      let key : Key = record { code = code; vendor = 0 } in
      made_fits e (own d code bytes) some (no_group d is key e some (λ g. other (sym format ∙ g))) (own_holds d u key e some) (subst (λ (g : PlainFormat). IsLeaf g bytes) (sym format) leaf)

  pub session_fits : (request these : List PlainAvp) → IsSession d request these → AllByRecursion (FitsAlone d u most) these
  session_fits request these h = by (find (λ v. same_key (key_of v) session_id) request) h
    where
      one : (bytes : List ℕ) → TakesData d session_id bytes → FitsAlone d u most (own d 263 bytes)
      one bytes takes = of_entry (known d session_id) refl takes
        where
          of_entry : (o : Option DictEntry) → known d session_id ≡ o → MatchOption o ⊥ (λ e. IsLeaf e.format bytes) → FitsAlone d u most (own d 263 bytes)
          of_entry None none t = absurd t
          of_entry (Some e) some t =
              made_fits e (own d 263 bytes) some (no_group d is session_id e some (λ g. subst (λ (f : PlainFormat). IsLeaf f bytes) g t)) (own_holds d u session_id e some) t

      by : (o : Option PlainAvp) → MatchOption o (these ≡ []) (λ v. (TakesData d session_id v.bytes × (these ≡ own d 263 v.bytes ∷ [])) ⊎ ((¬ TakesData d session_id v.bytes) × (these ≡ [])))
          → AllByRecursion (FitsAlone d u most) these
      by None e = subst (AllByRecursion (FitsAlone d u most)) (sym e) tt
      by (Some v) (inl (takes, e)) = subst (AllByRecursion (FitsAlone d u most)) (sym e) (one v.bytes takes, tt)
      by (Some v) (inr (other, e)) = subst (AllByRecursion (FitsAlone d u most)) (sym e) tt

  pub message_fits : (bytes : List ℕ) → IsUtf8 bytes → IfSome (known d error_message) (λ e. e.rule ≢ Must) → has_format is_text d error_message ≡ true
      → FitsAlone d u most (record { code = 281; flags = 0; vendor = None; bytes = bytes })
  message_fits bytes text rule is_text_there = by (known d error_message) refl rule is_text_there
    where
      by : (o : Option DictEntry) → known d error_message ≡ o → IfSome o (λ e. e.rule ≢ Must) → option_map_or (λ e. is_text e.format) o false ≡ true
          → FitsAlone d u most (record { code = 281; flags = 0; vendor = None; bytes = bytes })
      by None none r t = absurd cc
      by (Some e) some r t =
          made_fits e (record { code = 281; flags = 0; vendor = None; bytes = bytes }) some (no_group d is error_message e some (λ g. absurd (let bad : false ≡ true = sym (ap is_text g) ∙ t in cc)))
          (clear_holds e.rule r) (text_leaf e.format bytes t text)

  pub failed_fits : (bytes : List ℕ) → has_format is_nest d failed_avp ≡ true → FitsAlone d u most (own d 279 bytes)
  failed_fits bytes nest = by (entry_of d failed_avp) refl
    where
      v : PlainAvp
      v = own d 279 bytes

      of_group : (i : ℕ) (e : DictEntry) (g : Option PlainDefinition) → entry_of d failed_avp ≡ Some i → slice_get d.entries i ≡ Some e → known d failed_avp ≡ Some e → e.group ≡ g → FitsAlone d u most v
      of_group i e None at there some none =
          let grouped = all_at (λ (x : DictEntry). (x.format ≡ Grouped) ↔ IsSome x.group) d.entries i e is.grouped there in
          let format : is_nest e.format ≡ true = ap (λ (o : Option DictEntry). option_map_or (λ (x : DictEntry). is_nest x.format) o false) (sym some) ∙ nest in
          made_fits e v some none (own_holds d u failed_avp e some) (nest_leaf e.format bytes format (λ same. absurd (let bad : false ≡ true = subst IsSome none (grouped.0 same) in cc)))
      of_group i e (Some g) at there some group =
          let place = (group_there d i e g there group).0 in
          let n = number_of d i in
          let placed : grouped_failed d ≡ Some (i, n) =
          ap (option_and_then (λ (j : ℕ). option_and_then (λ (k : ℕ). Some (j, k)) (group_place d j))) at ∙ ap (option_and_then (λ (k : ℕ). Some (i, k))) place in
          let x = grouped_takes_any d (i, n) e placed some in
          let m = subst (λ (r : MRule). MHolds r v.flags) (sym x.2.0) (own_holds d u failed_avp e some) in
          let leaf = subst (λ (f : PlainFormat). IsLeaf f bytes) (sym x.2.1) tt in
          let there_fits = for_all (opaque_at d (Some (i, n))) u most v (leaf_fits (opaque_at d (Some (i, n))) u x.0 v x.1 x.2.2 m leaf) in
          subst (λ (o : Option (ℕ × ℕ)). AllFit (opaque_at d o) u most (v ∷ [])) (sym placed) there_fits

      by : (o : Option ℕ) → entry_of d failed_avp ≡ o → FitsAlone d u most v
      by None none =
          let bad : false ≡ true = ap (λ (o : Option DictEntry). option_map_or (λ (x : DictEntry). is_nest x.format) o false) (sym (not_known d failed_avp (sym none))) ∙ nest in
          absurd cc
      by (Some i) at = let e = known_by_entry d failed_avp i at in of_group i e.0 e.0.group at e.1 e.2 refl

  pub proxies_fit : (these : List PlainAvp) → AllByRecursion (IsFitOf d u most proxy_info) these → AllByRecursion (FitsAlone d u most) (map copied these)
  proxies_fit [] h = tt
  proxies_fit (v ∷ these) h = (one_opaque d u most (copied v) (one_copied d u most v h.0.1.fits), proxies_fit these h.1)
