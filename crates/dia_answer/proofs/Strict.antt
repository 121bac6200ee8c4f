-- By the dictionary itself an answer is valid exactly where its Failed-AVP fits.
use Rattle.std.proofs.Common.{◌≡◌, ◌≢◌, ℕ, zero, suc, Bool, true, false, cond, List, [], ◌∷◌, ◌++◌, map, Option, Some, None, inl, inr, refl, sym, ap, subst, ◌∙◌}
use Rattle.std.specs.Prelude.{◌⊎◌, ◌↔◌, ◌&&◌, bit_and, filter, find, flat_map, not, slice_get, unwrap_or, IfSome, IsSome, IsTrue, MatchOption, option_and_then}
use Rattle.std.specs.Bool.{MatchBool}
use Rattle.std.specs.List.{AllByRecursion}
use Rattle.std.specs.Option.{option_map_or}
use Rattle.std.proofs.lemmas.Bool.{and_parts, eqb-true}
use Rattle.std.proofs.lemmas.List.{map-append}
use Rattle.std.proofs.lemmas.Nat.{and_assoc}
use Rattle.std.proofs.lemmas.Option.{none-some, same_Some}
use Rattle.dia_wire.specs.declared.Key.{Key}
use Rattle.dia_wire.specs.Wire.{PlainAvp, key_of, HasM}
use Rattle.dia_data.specs.Leaf.{IsLeaf}
use Rattle.dia_data.specs.Plain.{PlainFormat, Grouped}
use Rattle.dia_book.specs.declared.MRule.{MRule}
use Rattle.dia_book.specs.declared.MRule.TheVariants.{Must, MustNot, Any}
use Rattle.dia_book.specs.declared.DRule.{DRule}
use Rattle.dia_book.specs.Keys.{same_key}
use Rattle.dia_book.specs.Dictionary.{Dictionary, DictEntry, PlainDefinition, IsDictionary, entry_of, group_place, lists_key}
use Rattle.dia_book.proofs.SameKeys.{same_key-equal, same_key-true}
use Rattle.dia_terms.specs.declared.Unknown.{Unknown}
use Rattle.dia_terms.specs.declared.Unknown.TheVariants.{Kept, Refused}
use Rattle.dia_terms.specs.declared.Levels.{Levels}
use Rattle.dia_terms.specs.declared.Levels.TheVariants as levels
use Rattle.dia_valid.specs.Valid.{known, is_listed, AllFit, Fits, IsAccepted, IsLevel, MHolds}
use Rattle.dia_valid.proofs.Entries.{all_at, at_position, not_known}
use Rattle.dia_valid.proofs.Members.{in_all, all_append, all_in, in_filter}
use Rattle.dia_answer.specs.declared.forms.Form.{Form}
use Rattle.dia_answer.specs.declared.forms.Form.TheVariants as form
use Rattle.dia_answer.specs.Dictionaries.{failed_avp, grouped_failed, opaque}
use Rattle.dia_answer.specs.Stocks.{IsFitOf, TakesData, copied, copied_by, error_message, has_format, is_nest, is_own, is_text, may_hold, own}
use Rattle.dia_answer.specs.Bodies.{AreCopies, AreFirst, AreRequired, AreRequiredAll, AreThose, IsSession, IsStock, Parts, error_messages, failed_avps, in_order, may_fail, proxy_info, session_id}
use Rattle.dia_answer.specs.Strict.{AreNoGroups, IsNoGroup}
use Rattle.dia_answer.proofs.OctetsLookups.{entry_same, hides, other_entry}

never : {X : Type 0} → false ≡ true → X
never e = absurd cc

-- ---- entries of other AVPs

pub known_at : (d : Dictionary) (key : Key) (e : DictEntry) → known d key ≡ Some e → (i : ℕ) × (slice_get d.entries i ≡ Some e)
known_at d key e is = by (entry_of d key) is
  where
    by : (o : Option ℕ) → option_and_then (λ i. slice_get d.entries i) o ≡ Some e → (i : ℕ) × (slice_get d.entries i ≡ Some e)
    by None h = absurd (none-some e h)
    by (Some i) h = (i, h)

pub place_is : (d : Dictionary) (place : ℕ × ℕ) → grouped_failed d ≡ Some place → entry_of d failed_avp ≡ Some place.0
place_is d place e = by (entry_of d failed_avp) refl e
  where
    of_group : (i : ℕ) (o : Option ℕ) → option_and_then (λ g. Some (i, g)) o ≡ Some place → Some i ≡ Some place.0
    of_group i None e = absurd (none-some place e)
    of_group i (Some n) e = let same : (i, n) ≡ place = same_Some {A = ℕ × ℕ} (i, n) place e in ap (λ (p : ℕ × ℕ). Some p.0) same

    by : (o : Option ℕ) → entry_of d failed_avp ≡ o → option_and_then (λ e. option_and_then (λ g. Some (e, g)) (group_place d e)) o ≡ Some place → entry_of d failed_avp ≡ Some place.0
    by None here e = absurd (none-some place e)
    by (Some i) here e = here ∙ of_group i (group_place d i) e

-- an entry of another key than Failed-AVP's stays as it is
shown : (d : Dictionary) (o : Option (ℕ × ℕ)) (key : Key) (i : ℕ) → o ≡ grouped_failed d → same_key failed_avp key ≡ false → entry_of d key ≡ Some i → hides o i ≡ false
shown d None key i is other at = refl
shown d (Some place) key i is other at = by (hides (Some place) i) refl
  where
    by : (b : Bool) → hides (Some place) i ≡ b → b ≡ false
    by false h = refl
    by true h =
        let here = at_position (λ (e : DictEntry). same_key key e.key) d.entries i at in
        let there = at_position (λ (e : DictEntry). same_key failed_avp e.key) d.entries place.0 (place_is d place (sym is)) in
        let same : here.0 ≡ there.0 = same_Some here.0 there.0 (sym here.1 ∙ ap (slice_get d.entries) (eqb-true i place.0 h) ∙ there.1) in
        let is_failed : failed_avp ≡ there.0.key = same_key-true failed_avp there.0.key there.2 in
        let is_key : key ≡ here.0.key = same_key-true key here.0.key here.2 in
        never (sym other ∙ same_key-equal failed_avp key (is_failed ∙ ap (λ (e : DictEntry). e.key) (sym same) ∙ sym is_key))

pub known_other : (d : Dictionary) (key : Key) → same_key failed_avp key ≡ false → known (opaque d) key ≡ known d key
known_other d key other = by (entry_of d key) refl
  where
    by : (o : Option ℕ) → entry_of d key ≡ o → known (opaque d) key ≡ known d key
    by None none = not_known (opaque d) key (sym (entry_same d (grouped_failed d) key ∙ none)) ∙ sym (not_known d key (sym none))
    by (Some i) at =
        ap (option_and_then (λ (j : ℕ). slice_get (opaque d).entries j)) (entry_same d (grouped_failed d) key ∙ at)
        ∙ other_entry d (grouped_failed d) i (shown d (grouped_failed d) key i refl other at)
        ∙ sym (ap (option_and_then (λ (j : ℕ). slice_get d.entries j)) at)

-- ---- AVPs that are no groups

-- the flags and the data are as this entry says, where P says which data a group may have
abbrev pub IsAsSaid : Unknown → (List DRule → List ℕ → Type 0) → ℕ → List ℕ → Option DictEntry → Type 0
IsAsSaid u P flags bytes o = MatchOption o (IsAccepted u flags) (λ e. MHolds e.rule flags × MatchOption e.group (IsLeaf e.format bytes) (λ group. P group.rules bytes))

leaf_said : (u : Unknown) (P Q : List DRule → List ℕ → Type 0) (flags : ℕ) (bytes : List ℕ) (o : Option DictEntry) → IfSome o (λ e. e.group ≡ None) → IsAsSaid u P flags bytes o → IsAsSaid u Q flags bytes o
leaf_said u P Q flags bytes None none h = h
leaf_said u P Q flags bytes (Some e) none h = (
  h.0,
  subst (λ (g : Option PlainDefinition). MatchOption g (IsLeaf e.format bytes) (λ group. Q group.rules bytes)) (sym none)
      (subst (λ (g : Option PlainDefinition). MatchOption g (IsLeaf e.format bytes) (λ group. P group.rules bytes)) none h.1),
)

pub leaf_fits : (d : Dictionary) (u : Unknown) (n : ℕ) (v : PlainAvp) → same_key failed_avp (key_of v) ≡ false → IsNoGroup d (key_of v) → Fits (opaque d) u n v → Fits d u n v
leaf_fits d u zero v other none h =
    leaf_said u (λ rules bytes. ⊥) (λ rules bytes. ⊥) v.flags v.bytes (known d (key_of v)) none (subst (IsAsSaid u (λ rules bytes. ⊥) v.flags v.bytes) (known_other d (key_of v) other) h)
leaf_fits d u (suc n) v other none h =
    leaf_said u (IsLevel (Fits (opaque d) u n)) (IsLevel (Fits d u n)) v.flags v.bytes (known d (key_of v)) none
    (subst (IsAsSaid u (IsLevel (Fits (opaque d) u n)) v.flags v.bytes) (known_other d (key_of v) other) h)

module _ (d : Dictionary) (is : IsDictionary d) where
  -- an entry whose format isn't Grouped has no definition
  pub no_group : (key : Key) (e : DictEntry) → known d key ≡ Some e → e.format ≢ Grouped → e.group ≡ None
  no_group key e some other = by e.group refl
    where
      grouped : (e.format ≡ Grouped) ↔ IsSome e.group
      grouped = let at = known_at d key e some in all_at (λ (x : DictEntry). (x.format ≡ Grouped) ↔ IsSome x.group) d.entries at.0 e is.grouped at.1

      by : (g : Option PlainDefinition) → e.group ≡ g → e.group ≡ None
      by None h = h
      by (Some g) h = absurd (other (grouped.1 (subst IsSome (sym h) refl)))

  pub takes_no_group : (key : Key) (bytes : List ℕ) → TakesData d key bytes → IsNoGroup d key
  takes_no_group key bytes takes = by (known d key) refl takes
    where
      by : (o : Option DictEntry) → known d key ≡ o → MatchOption o ⊥ (λ e. IsLeaf e.format bytes) → IfSome o (λ e. e.group ≡ None)
      by None h t = tt
      by (Some e) h t = no_group key e h (λ grouped. subst (λ (f : PlainFormat). IsLeaf f bytes) grouped t)

  pub text_no_group : (key : Key) → has_format is_text d key ≡ true → IsNoGroup d key
  text_no_group key text = by (known d key) refl text
    where
      by : (o : Option DictEntry) → known d key ≡ o → option_map_or (λ e. is_text e.format) o false ≡ true → IfSome o (λ e. e.group ≡ None)
      by None h t = tt
      by (Some e) h t = no_group key e h (λ grouped. never (sym (ap is_text grouped) ∙ t))

-- ---- copies

same_m : (flags : ℕ) → HasM (bit_and flags 127) ≡ HasM flags
same_m flags = ap (λ (n : ℕ). n ≢ 0) (and_assoc 64 flags 127)

flags_accepted : (u : Unknown) (f g : ℕ) → HasM g ≡ HasM f → IsAccepted u f → IsAccepted u g
flags_accepted Kept f g same h = λ m. h (subst (λ (X : Type 0). X) same m)
flags_accepted Refused f g same h = h

flags_hold : (r : MRule) (f g : ℕ) → HasM g ≡ HasM f → MHolds r f → MHolds r g
flags_hold Must f g same h = subst (λ (X : Type 0). X) (sym same) h
flags_hold MustNot f g same h = λ m. h (subst (λ (X : Type 0). X) same m)
flags_hold Any f g same h = tt

flags_said : (u : Unknown) (P : List DRule → List ℕ → Type 0) (f g : ℕ) (bytes : List ℕ) (o : Option DictEntry) → HasM g ≡ HasM f → IsAsSaid u P f bytes o → IsAsSaid u P g bytes o
flags_said u P f g bytes None same h = flags_accepted u f g same h
flags_said u P f g bytes (Some e) same h = (flags_hold e.rule f g same h.0, h.1)

copied_fits : (d : Dictionary) (u : Unknown) (n : ℕ) (v : PlainAvp) → Fits d u n v → Fits d u n (copied v)
copied_fits d u n v h = by v.vendor refl
  where
    said : (P : List DRule → List ℕ → Type 0) → v.vendor ≡ Some 0 → IsAsSaid u P v.flags v.bytes (known d (key_of v)) → IsAsSaid u P (bit_and v.flags 127) v.bytes (known d (record { code = v.code; vendor = 0 }))
    said P e s = flags_said u P v.flags (bit_and v.flags 127) v.bytes (known d (record { code = v.code; vendor = 0 })) (same_m v.flags)
        (subst (λ (k : Key). IsAsSaid u P v.flags v.bytes (known d k)) (λ i. record { code = v.code; vendor = unwrap_or (e i) 0 }) s)

    none_there : (m : ℕ) → v.vendor ≡ Some 0 → Fits d u m v → Fits d u m (copied_by (Some zero) v)
    none_there zero e f = said (λ rules bytes. ⊥) e f
    none_there (suc m) e f = said (IsLevel (Fits d u m)) e f

    by : (o : Option ℕ) → v.vendor ≡ o → Fits d u n (copied_by o v)
    by None e = h
    by (Some zero) e = none_there n e h
    by (Some (suc k)) e = h

pub one_copied : (d : Dictionary) (u : Unknown) (most : Levels) (v : PlainAvp) → AllFit d u most (v ∷ []) → AllFit d u most (copied v ∷ [])
one_copied d u levels.Any v (n, (fits, end)) = (n, (copied_fits d u n v fits, tt))
one_copied d u (levels.AtMost n) v (fits, end) = (copied_fits d u n v fits, tt)

-- ---- the AVPs of an answer

-- it is Failed-AVP, or fits if it is no group, or fits
abbrev pub IsEasy : Dictionary → Unknown → Levels → PlainAvp → Type 0
IsEasy d u most v = IsTrue (same_key failed_avp (key_of v)) ⊎ IsNoGroup d (key_of v) ⊎ AllFit d u most (v ∷ [])

pub all_those : (P : PlainAvp → Type 0) (avps these : List PlainAvp) → AreThose P avps these → AllByRecursion P these
all_those P [] these h = subst (AllByRecursion P) (sym h) tt
all_those P (v ∷ avps) these (inl (others, p, parts, rest)) = subst (AllByRecursion P) (sym parts) (p, all_those P avps others rest)
all_those P (v ∷ avps) these (inr (other, rest)) = all_those P avps these rest

module _ (d : Dictionary) (u : Unknown) (most : Levels) where
  copies_easy : (key : Key) (these : List PlainAvp) → AllByRecursion (IsFitOf d u most key) these → AllByRecursion (IsEasy d u most) (map copied these)
  copies_easy key [] h = tt
  copies_easy key (v ∷ these) h = (inr (inr (one_copied d u most v h.0.1.fits)), copies_easy key these h.1)

  none_easy : (these : List PlainAvp) → these ≡ [] → AllByRecursion (IsEasy d u most) (map copied these)
  none_easy these h = subst (λ (vs : List PlainAvp). AllByRecursion (IsEasy d u most) (map copied vs)) (sym h) tt

  required_easy : (request : List PlainAvp) (rule : DRule) (these : List PlainAvp) → AreRequired d u most request rule these → AllByRecursion (IsEasy d u most) (map copied these)
  required_easy request rule these h = by rule.key h
    where
      by_own : (key : Key) (b : Bool) → MatchBool b (these ≡ []) (AreFirst (IsFitOf d u most key) rule.min request these) → AllByRecursion (IsEasy d u most) (map copied these)
      by_own key true h = none_easy these h
      by_own key false f = copies_easy key these (all_those (IsFitOf d u most key) f.front these f.those)

      by : (o : Option Key) → MatchOption o (these ≡ []) (λ key. MatchBool (is_own key) (these ≡ []) (AreFirst (IsFitOf d u most key) rule.min request these)) → AllByRecursion (IsEasy d u most) (map copied these)
      by None h = none_easy these h
      by (Some key) h = by_own key (is_own key) h

  all_required_easy : (request : List PlainAvp) (rules : List DRule) (these : List PlainAvp) → AreRequiredAll d u most request rules these → AllByRecursion (IsEasy d u most) (map copied these)
  all_required_easy request [] these h = none_easy these h
  all_required_easy request (rule ∷ rules) these (first, others, parts, here, later) =
      subst (AllByRecursion (IsEasy d u most)) (sym (ap (map copied) parts ∙ map-append copied first others))
      (all_append (IsEasy d u most) (map copied first) (map copied others) (required_easy request rule first here) (all_required_easy request rules others later))

  all_copies_easy : (request : List PlainAvp) (f : Form) (rules : List DRule) (these : List PlainAvp) → AreCopies d u most request f rules these → AllByRecursion (IsEasy d u most) (map copied these)
  all_copies_easy request form.Own rules these h = all_required_easy request rules these h
  all_copies_easy request form.Error rules these h = none_easy these h
  all_copies_easy request form.Base rules these h = none_easy these h

  one_or_none_easy : (b : Bool) (v : PlainAvp) → (b ≡ true → IsEasy d u most v) → AllByRecursion (IsEasy d u most) (cond b (v ∷ []) [])
  one_or_none_easy true v h = (h refl, tt)
  one_or_none_easy false v h = tt

  messages_easy : IsDictionary d → (rules : List DRule) (line : Option (List ℕ)) → AllByRecursion (IsEasy d u most) (error_messages d rules line)
  messages_easy is rules None = tt
  messages_easy is rules (Some line) = one_or_none_easy (has_format is_text d error_message && may_hold rules error_message) (record { code = 281; flags = 0; vendor = None; bytes = line })
      (λ e. inr (inl (text_no_group d is error_message (and_parts (has_format is_text d error_message) (may_hold rules error_message) e).0)))

  failed_easy : (f : Form) (rules : List DRule) (failed : Option (List ℕ)) → AllByRecursion (IsEasy d u most) (failed_avps d f rules failed)
  failed_easy f rules None = tt
  failed_easy f rules (Some bytes) = one_or_none_easy (has_format is_nest d failed_avp && may_fail f rules) (own d 279 bytes) (λ e. inl refl)

  session_easy : IsDictionary d → (request these : List PlainAvp) → IsSession d request these → AllByRecursion (IsEasy d u most) these
  session_easy is request these h = by (find (λ v. same_key (key_of v) session_id) request) h
    where
      by : (o : Option PlainAvp) → MatchOption o (these ≡ []) (λ v. (TakesData d session_id v.bytes × (these ≡ own d 263 v.bytes ∷ [])) ⊎ ((¬ TakesData d session_id v.bytes) × (these ≡ [])))
          → AllByRecursion (IsEasy d u most) these
      by None e = subst (AllByRecursion (IsEasy d u most)) (sym e) tt
      by (Some v) (inl (takes, e)) = subst (AllByRecursion (IsEasy d u most)) (sym e) (inr (inl (takes_no_group d is session_id v.bytes takes)), tt)
      by (Some v) (inr (other, e)) = subst (AllByRecursion (IsEasy d u most)) (sym e) tt

pub stock_easy : (d : Dictionary) (f : Form) (rules : List DRule) (p : Parts) (avps : List PlainAvp) → IsDictionary d → AreNoGroups d → IsStock d f rules p avps → AllByRecursion (IsEasy d p.unknown p.levels) avps
stock_easy d f rules p avps is none s =
    let u = p.unknown in
    let most = p.levels in
    let P = IsEasy d u most in
    let owns : List PlainAvp = own d 268 p.code ∷ own d 264 p.host ∷ own d 296 p.realm ∷ [] in
    let message = error_messages d rules p.line in
    let failed = failed_avps d f rules p.failed in
    let copies = map copied s.copies in
    let proxies = map copied s.proxies in
    let owns_easy : AllByRecursion P owns = (inr (inl none.code), (inr (inl none.host), (inr (inl none.realm), tt))) in
    let first = all_append P s.session owns (session_easy d u most is p.request s.session s.is_session) owns_easy in
    let second = all_append P (s.session ++ owns) message first (messages_easy d u most is rules p.line) in
    let third = all_append P (s.session ++ owns ++ message) failed second (failed_easy d u most f rules p.failed) in
    let fourth = all_append P (s.session ++ owns ++ message ++ failed) copies third (all_copies_easy d u most p.request f rules s.copies s.are_copies) in
    let fits = all_those (IsFitOf d u most proxy_info) p.request s.proxies s.are_proxies in
    let fifth = all_append P (s.session ++ owns ++ message ++ failed ++ copies) proxies fourth (copies_easy d u most proxy_info s.proxies fits) in
    subst (AllByRecursion P) (sym s.parts) fifth

-- ---- in their order

pub all_filter : (P : PlainAvp → Type 0) (p : PlainAvp → Bool) (avps : List PlainAvp) → AllByRecursion P avps → AllByRecursion P (filter p avps)
all_filter P p avps h = all_in P (filter p avps) (λ v i. in_all P v avps h (in_filter p avps v i).0)

pub all_in_order : (P : PlainAvp → Type 0) (rules : List DRule) (avps : List PlainAvp) → AllByRecursion P avps → AllByRecursion P (in_order rules avps)
all_in_order P rules avps h =
    all_append P (flat_map (λ rule. filter (λ v. lists_key (key_of v) rule) avps) rules) (filter (λ v. not (is_listed rules (key_of v))) avps) (by rules)
    (all_filter P (λ v. not (is_listed rules (key_of v))) avps h)
  where
    by : (rs : List DRule) → AllByRecursion P (flat_map (λ rule. filter (λ v. lists_key (key_of v) rule) avps) rs)
    by [] = tt
    by (r ∷ rs) = all_append P (filter (λ v. lists_key (key_of v) r) avps) (flat_map (λ rule. filter (λ v. lists_key (key_of v) rule) avps) rs) (all_filter P (λ v. lists_key (key_of v) r) avps h) (by rs)
