-- At safe sites each level that can be sent is a level of B's.
use Rattle.std.proofs.Common.{◌≡◌, ℕ, zero, suc, ◌+◌, ◌<◌, ◌≤◌, List, [], ◌∷◌, ◌++◌, length, map, Option, Some, None, refl, sym, ap, subst, ◌∙◌, arith, inl, inr}
use Rattle.std.specs.Prelude.{◌⊎◌, IsSome, MatchOption, Contains, option_and_then, true, false}
use Rattle.std.specs.List.{AllByRecursion}
use Rattle.std.proofs.lemmas.Option.{none-some}
use Rattle.dia_wire.specs.Wire.{PlainAvp, key_of, Spells, SpellsAll}
use Rattle.dia_data.specs.Leaf.{IsLeaf}
use Rattle.dia_book.specs.declared.DRule.{DRule}
use Rattle.dia_book.specs.Dictionary.{Dictionary, DictEntry, PlainDefinition}
use Rattle.dia_terms.specs.declared.Unknown.{Unknown}
use Rattle.dia_valid.specs.Valid.{known, MHolds, IsAccepted, FitsBy, IsLevel, Fits, Placed}
use Rattle.dia_valid.specs.Valid.{group_at}
use Rattle.dia_terms.specs.declared.sends.Sends.{Sends}
use Rattle.dia_breaking_sites.specs.Sent.{own_policy, StandAsSent, IsSentLevel, IsSentWithin, AreBytes}
use Rattle.dia_breaking_sites.specs.Sites.{Site, IsLevelOf, FitsAlone, HasSite, AboutLevels, same, inside, AreAsked, AreSafe, AreLevelsOfB}
use Rattle.dia_breaking_sites.proofs.Members.{IsIn, contains_in, in_all, all_map, all_parts}

-- ---- an AVP and its entry

-- the AVP is as this entry says, where P says which data a group may have
abbrev pub Body : Unknown → (List DRule → List ℕ → Type 0) → PlainAvp → Option DictEntry → Type 0
Body u P v o = MatchOption o (IsAccepted u v.flags) (λ e. MHolds e.rule v.flags × MatchOption e.group (IsLeaf e.format v.bytes) (λ group. P group.rules v.bytes))

pub data_more : (P Q : List DRule → List ℕ → Type 0) (bytes : List ℕ) (X : Type 0) (o : Option PlainDefinition) → ((rules : List DRule) → P rules bytes → Q rules bytes)
    → MatchOption o X (λ group. P group.rules bytes) → MatchOption o X (λ group. Q group.rules bytes)
data_more P Q bytes X None f h = h
data_more P Q bytes X (Some group) f h = f group.rules h

pub body_more : (u : Unknown) (P Q : List DRule → List ℕ → Type 0) (v : PlainAvp) (o : Option DictEntry) → ((rules : List DRule) → P rules v.bytes → Q rules v.bytes) → Body u P v o → Body u Q v o
body_more u P Q v None f h = h
body_more u P Q v (Some e) f h = (h.0, data_more P Q v.bytes (IsLeaf e.format v.bytes) e.group f h.1)

-- what a group's data is
level_in : (u : Unknown) (P : List DRule → List ℕ → Type 0) (v : PlainAvp) (x : PlainDefinition) (o : Option DictEntry) → option_and_then (λ e. e.group) o ≡ Some x → Body u P v o → P x.rules v.bytes
level_in u P v x None is h = absurd (none-some x is)
level_in u P v x (Some e) is h = subst (λ (o : Option PlainDefinition). MatchOption o (IsLeaf e.format v.bytes) (λ group. P group.rules v.bytes)) is h.1

pub some_of : {X : Type 0} (o : Option X) → IsSome o → (x : X) × (o ≡ Some x)
some_of None h = absurd (let e : false ≡ true = h in cc)
some_of (Some x) h = (x, refl)

-- ---- numbers of levels

module _ (d : Dictionary) (u : Unknown) where
  -- what fits with some levels fits with more
  fits_more : (n m : ℕ) (v : PlainAvp) → n ≤ m → Fits d u n v → Fits d u m v
  fits_more zero zero v le h = h
  fits_more zero (suc m) v le h = body_more u (λ rules bytes. ⊥) (IsLevel (Fits d u m)) v (known d (key_of v)) (λ rules bad. absurd bad) h
  fits_more (suc n) zero v le h = absurd (omega (arith, le))
  fits_more (suc n) (suc m) v le h = body_more u (IsLevel (Fits d u n)) (IsLevel (Fits d u m)) v (known d (key_of v))
      (λ rules lv. (lv.0, lv.1, lv.2, all_map (Fits d u n) (Fits d u m) lv.0 (λ w k. fits_more n m w (omega (arith, le)) k) lv.3)) h

  -- so AVPs of which each fits with some number of levels fit with one number
  pub common : (avps : List PlainAvp) → ((v : PlainAvp) → IsIn v avps → (n : ℕ) × Fits d u n v) → (n : ℕ) × AllByRecursion (Fits d u n) avps
  common [] h = (0, tt)
  common (v ∷ avps) h =
      let x = h v (inl refl) in
      let r = common avps (λ w i. h w (inr i)) in
      (x.0 + r.0, (fits_more x.0 (x.0 + r.0) v (omega arith) x.1, all_map (Fits d u r.0) (Fits d u (x.0 + r.0)) avps (λ w k. fits_more r.0 (x.0 + r.0) w (omega arith) k) r.1))

-- ---- data

abbrev IsByte : ℕ → Type 0
IsByte byte = byte < 256

data_of : (v : PlainAvp) (front : List ℕ) → Spells v front → AreBytes front → AreBytes v.bytes
data_of v front s are =
    let all = subst AreBytes s.parts are in
    let before = s.code ++ (v.flags ∷ s.len) ++ s.vendor in
    (all_parts IsByte before v.bytes (all_parts IsByte (before ++ v.bytes) s.padding all).0).1

data_bytes : (avps : List PlainAvp) (bytes : List ℕ) (v : PlainAvp) → SpellsAll avps bytes → AreBytes bytes → IsIn v avps → AreBytes v.bytes
data_bytes [] bytes v h are i = absurd i
data_bytes (w ∷ avps) bytes v (front, rest, s, parts, later) are (inl e) =
    subst (λ (x : PlainAvp). AreBytes x.bytes) (sym e) (data_of w front s (all_parts IsByte front rest (subst AreBytes parts are)).0)
data_bytes (w ∷ avps) bytes v (front, rest, s, parts, later) are (inr i) = data_bytes avps rest v later (all_parts IsByte front rest (subst AreBytes parts are)).1 i

-- ---- levels

module _ (da db : Dictionary) (who : Sends) (u : Unknown) where
  -- what both dictionaries see a level in
  abbrev Lifts : (List DRule → List ℕ → Type 0) → PlainAvp → Type 0
  Lifts P v = (x y : PlainDefinition) → group_at da v ≡ Some x → group_at db v ≡ Some y → P x.rules v.bytes → (m : ℕ) × IsLevel (Fits db u m) y.rules v.bytes

  abbrev Alone : ℕ → PlainAvp → List DRule → List ℕ → Type 0
  Alone k v rules bytes = IsSome (group_at da v) ⊎ IsLevel (Fits db u k) rules bytes

  group_fits : (P : List DRule → List ℕ → Type 0) (v : PlainAvp) (k : ℕ) (y : PlainDefinition) → Lifts P v → FitsBy da (own_policy who) P v → group_at db v ≡ Some y
      → Alone k v y.rules v.bytes → (m : ℕ) × IsLevel (Fits db u m) y.rules v.bytes
  group_fits P v k y lifts sent is (inl some) =
      let x = some_of (group_at da v) some in
      lifts x.0 y x.1 is (level_in (own_policy who) P v x.0 (known da (key_of v)) x.1 sent)
  group_fits P v k y lifts sent is (inr level) = (k, level)

  entry_fits : (P : List DRule → List ℕ → Type 0) (v : PlainAvp) (k : ℕ) (f : DictEntry) (o : Option PlainDefinition) → Lifts P v → FitsBy da (own_policy who) P v → known db (key_of v) ≡ Some f
      → f.group ≡ o → MHolds f.rule v.flags → MatchOption o (IsLeaf f.format v.bytes) (λ group. Alone k v group.rules v.bytes) → (m : ℕ) × Fits db u m v
  entry_fits P v k f None lifts sent at is m h =
      let whole : Body u (λ rules bytes. ⊥) v (Some f) = (m, subst (λ (o : Option PlainDefinition). MatchOption o (IsLeaf f.format v.bytes) (λ group. ⊥)) (sym is) h) in
      (0, subst (Body u (λ rules bytes. ⊥) v) (sym at) whole)
  entry_fits P v k f (Some y) lifts sent at is m h =
      let r = group_fits P v k y lifts sent (ap (option_and_then (λ (e : DictEntry). e.group)) at ∙ is) h in
      let whole : Body u (IsLevel (Fits db u r.0)) v (Some f) =
      (m, subst (λ (o : Option PlainDefinition). MatchOption o (IsLeaf f.format v.bytes) (λ group. IsLevel (Fits db u r.0) group.rules v.bytes)) (sym is) r.1) in
      (suc r.0, subst (Body u (IsLevel (Fits db u r.0)) v) (sym at) whole)

  avp_fits : (P : List DRule → List ℕ → Type 0) (v : PlainAvp) (k : ℕ) (o : Option DictEntry) → Lifts P v → FitsBy da (own_policy who) P v → known db (key_of v) ≡ o
      → Body u (Alone k v) v o → (m : ℕ) × Fits db u m v
  avp_fits P v k None lifts sent at h = (0, subst (Body u (λ rules bytes. ⊥) v) (sym at) h)
  avp_fits P v k (Some f) lifts sent at h = entry_fits P v k f f.group lifts sent at refl h.0 h.1

  -- an AVP that fits B by itself fits B, where the level in it is one of B's
  pub one_fits : (P : List DRule → List ℕ → Type 0) (v : PlainAvp) → Lifts P v → FitsBy da (own_policy who) P v → FitsAlone da db u v → (m : ℕ) × Fits db u m v
  one_fits P v lifts sent (k, h) = avp_fits P v k (known db (key_of v)) lifts sent refl h

module _ (da db : Dictionary) (who : Sends) (u : Unknown) (Asked : AboutLevels) (sites : List Site) (safe : AreSafe da db who u Asked sites) where
  -- levels with at most n levels of groups in them
  abbrev Reads : ℕ → Type 0
  Reads n = (site : Site) (avps : List PlainAvp) (bytes : List ℕ) → Contains sites site → AreBytes bytes → SpellsAll avps bytes → length bytes ≤ site.room
      → StandAsSent who site.a.rules (map key_of avps) → AllByRecursion (IsSentWithin da who n) avps → AreAsked da db Asked site.a site.b avps
      → Placed site.b.rules (map key_of avps) × ((m : ℕ) × AllByRecursion (Fits db u m) avps)

  inner : (n : ℕ) (v : PlainAvp) (x y : PlainDefinition) → Reads n → AreBytes v.bytes → HasSite sites x y (length v.bytes)
      → ((avps : List PlainAvp) → SpellsAll avps v.bytes → AreAsked da db Asked x y avps) → IsSentLevel who (IsSentWithin da who n) x.rules v.bytes → (m : ℕ) × IsLevel (Fits db u m) y.rules v.bytes
  inner n v x y ih are (site, within, is_a, is_b, room) asked (avps, spelled, stand, sent) =
      let here : StandAsSent who site.a.rules (map key_of avps) = subst (λ (c : PlainDefinition). StandAsSent who c.rules (map key_of avps)) (sym is_a) stand in
      let first : AreAsked da db Asked site.a y avps = subst (λ (c : PlainDefinition). AreAsked da db Asked c y avps) (sym is_a) (asked avps spelled) in
      let both : AreAsked da db Asked site.a site.b avps = subst (λ (c : PlainDefinition). AreAsked da db Asked site.a c avps) (sym is_b) first in
      let r = ih site avps v.bytes within are spelled room here sent both in
      (r.1.0, (avps, spelled, subst (λ (c : PlainDefinition). Placed c.rules (map key_of avps)) is_b r.0, r.1.1))

  level_of : (n : ℕ) (site : Site) (avps : List PlainAvp) (bytes : List ℕ) → AreBytes bytes → SpellsAll avps bytes → length bytes ≤ site.room
      → StandAsSent who site.a.rules (map key_of avps) → AllByRecursion (IsSentWithin da who n) avps → IsLevelOf da who site.a.rules site.room avps
  level_of n site avps bytes are spelled room stand sent = record { bytes = bytes; are_bytes = are; spelled = spelled; has_room = room; stand = stand; sent = (n, sent) }

  pub reads : (n : ℕ) → Reads n
  reads zero site avps bytes within are spelled room stand sent asked =
      let s = safe site within in
      let level = level_of zero site avps bytes are spelled room stand sent in
      let own = asked site.a site.b avps same in (
        s.placed avps level own,
        common db u avps (λ v i.
            one_fits da db who u (λ rules bytes. ⊥) v (λ x y is_a is_b bad. absurd bad) (in_all (IsSentWithin da who zero) avps v sent i) (s.alone avps v level own (contains_in avps v i))),
      )
  reads (suc n) site avps bytes within are spelled room stand sent asked =
      let s = safe site within in
      let level = level_of (suc n) site avps bytes are spelled room stand sent in
      let own = asked site.a site.b avps same in (
        s.placed avps level own,
        common db u avps (λ v i.
            let here = contains_in avps v i in
            one_fits da db who u (IsSentLevel who (IsSentWithin da who n)) v
            (λ x y is_a is_b lv.
            inner n v x y (reads n) (data_bytes avps bytes v spelled are i) (s.groups avps v x y level own here is_a is_b)
            (λ next spells a b deep lies. asked a b deep (inside v x y next here is_a is_b spells lies)) lv)
            (in_all (IsSentWithin da who (suc n)) avps v sent i) (s.alone avps v level own here)),
      )

  pub levels_of_b : AreLevelsOfB da db who u Asked sites
  levels_of_b site avps within l asked = reads l.sent.0 site avps l.bytes within l.are_bytes l.spelled l.has_room l.stand l.sent.1 asked
