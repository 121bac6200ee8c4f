-- Under a closed table AVPs that fit in the first dictionary fit in the second.
use Rattle.std.proofs.Common.{◌≡◌, ◌≢◌, ℕ, zero, suc, true, false, List, [], ◌∷◌, map, find, Option, Some, None, refl, sym, ap, subst, ◌∙◌, inl, inr}
use Rattle.std.specs.Prelude.{◌⊎◌, ◌↔◌, IfSome, IsSome, is_some, MatchOption, slice_get}
use Rattle.std.specs.List.{AllByRecursion}
use Rattle.std.proofs.lemmas.Option.{same_Some}
use Rattle.dia_wire.specs.declared.Key.{Key}
use Rattle.dia_wire.specs.Wire.{PlainAvp, key_of}
use Rattle.dia_data.specs.Plain.{PlainFormat, AnyBytes, OctetString, Grouped}
use Rattle.dia_data.specs.Leaf.{IsLeaf}
use Rattle.dia_data.specs.Below.{FormatBelow}
use Rattle.dia_data.proofs.FormatsBelow.{leaf_below}
use Rattle.dia_book.specs.declared.MRule.{MRule}
use Rattle.dia_book.specs.declared.MRule.TheVariants.{Must, MustNot, Any as AnyM}
use Rattle.dia_book.specs.declared.DRule.{DRule}
use Rattle.dia_book.specs.Keys.{same_key}
use Rattle.dia_book.proofs.SameKeys.{same_key-refl, same_key-true}
use Rattle.dia_book.proofs.LookUpsByName.{find-place}
use Rattle.dia_book.proofs.Members.{IsAt, at_Contains, at_find, find-found}
use Rattle.dia_book.specs.Dictionary.{Dictionary, DictEntry, PlainDefinition, IsDictionary, AreRules, groups, definitions}
use Rattle.dia_terms.specs.declared.Unknown.{Unknown}
use Rattle.dia_terms.specs.declared.Unknown.TheVariants.{Kept, Refused}
use Rattle.dia_terms.specs.declared.Levels.{Levels}
use Rattle.dia_terms.specs.declared.Levels.TheVariants as levels
use Rattle.dia_valid.specs.Valid.{HasM, MHolds, IsAccepted, known, IsLevel, FitsBy, Fits, AllFit, Placed}
use Rattle.dia_compat.specs.TableText.{PlainTable}
use Rattle.dia_compat.specs.declared.checking.PairKind.TheVariants as kind
use Rattle.dia_compat.specs.declared.checking.Test.{Test}
use Rattle.dia_compat.specs.declared.checking.Test.TheVariants.{N1, N2, N3, N4, N5, N6, N7, N8, N9, N10}
use Rattle.dia_compat.specs.Below.{IsCoveredAlone, IsCovered, IsKnown, DefBelow}
use Rattle.dia_compat.specs.Closed.{NamesEntry, IsPairKey, BothGrouped, AvpPair, AvpTest, IsClosed}
use Rattle.dia_valid.proofs.Members.{IsIn, in_all, in_at, at_in, in_contains, contains_in, in_left, all_in, all_of, in_filter_map}
use Rattle.dia_compat.proofs.PlacedInSecond.{ByWild, Comes, comes, still_placed}
use Rattle.dia_valid.proofs.RulesOfKeys.{is_listed_by}

-- ---- entries

known_found : (d : Dictionary) (key : Key) → find (λ e. same_key key e.key) d.entries ≡ known d key
known_found d key = find-place (λ (e : DictEntry). same_key key e.key) d.entries

pub known_entry : (d : Dictionary) (key : Key) (e : DictEntry) → known d key ≡ Some e → IsIn e d.entries × (e.key ≡ key)
known_entry d key e h =
    let r = at_find (λ (x : DictEntry). same_key key x.key) d.entries e (known_found d key ∙ h) in
    (in_at d.entries r.0 e r.1, sym (same_key-true key e.key r.2))

pub entry_known : (d : Dictionary) (key : Key) (e : DictEntry) → IsDictionary d → IsIn e d.entries → e.key ≡ key → known d key ≡ Some e
entry_known d key e sound i same =
    let here = at_in d.entries e i in
    let found = find-found (λ (x : DictEntry). same_key key x.key) d.entries here.place e here.at (ap (λ (k : Key). same_key key k) same ∙ same_key-refl key) in
    let is : known d key ≡ Some found.0 = sym (known_found d key) ∙ found.1 in
    let there = known_entry d key found.0 is in
    let p = at_in d.entries found.0 there.0 in
    let place : p.place ≡ here.place = sound.distinct_keys p.place here.place found.0 e p.at here.at (there.1 ∙ sym same) in
    is ∙ sym p.at ∙ ap (λ (n : ℕ). slice_get d.entries n) place ∙ here.at

grouped_or : (e : DictEntry) (o : Option PlainDefinition) → ((e.format ≡ Grouped) ↔ IsSome e.group) → e.group ≡ o → e.format ≢ Grouped → o ≡ None
grouped_or e None iff h other = refl
grouped_or e (Some g) iff h other = absurd (other (iff.1 (ap (λ (x : Option PlainDefinition). is_some x) h)))

pub no_group : (d : Dictionary) (e : DictEntry) → IsDictionary d → IsIn e d.entries → e.format ≢ Grouped → e.group ≡ None
no_group d e sound i other = grouped_or e e.group (all_of (λ (x : DictEntry). (x.format ≡ Grouped) ↔ IsSome x.group) d.entries e sound.grouped i) refl other

some_of : {X : Type 0} (o : Option X) → IsSome o → (x : X) × (o ≡ Some x)
some_of None h = absurd (let e : false ≡ true = h in cc)
some_of (Some x) h = (x, refl)

pub has_group : (d : Dictionary) (e : DictEntry) → IsDictionary d → IsIn e d.entries → e.format ≡ Grouped → (g : PlainDefinition) × (e.group ≡ Some g)
has_group d e sound i is = some_of e.group ((all_of (λ (x : DictEntry). (x.format ≡ Grouped) ↔ IsSome x.group) d.entries e sound.grouped i).0 is)

pub is_grouped : (d : Dictionary) (e : DictEntry) (g : PlainDefinition) → IsDictionary d → IsIn e d.entries → e.group ≡ Some g → e.format ≡ Grouped
is_grouped d e g sound i h = (all_of (λ (x : DictEntry). (x.format ≡ Grouped) ↔ IsSome x.group) d.entries e sound.grouped i).1 (ap (λ (x : Option PlainDefinition). is_some x) h)

pub group_rules : (d : Dictionary) (e : DictEntry) (g : PlainDefinition) → IsDictionary d → IsIn e d.entries → e.group ≡ Some g → AreRules g.rules
group_rules d e g sound i h = all_of (λ (def : PlainDefinition). AreRules def.rules) (definitions d) g sound.rules
    (in_left (groups d) d.commands g (in_filter_map (λ (x : DictEntry). x.group) d.entries e g i h))

pub one_entry : (d : Dictionary) (e f : DictEntry) → IsDictionary d → IsIn e d.entries → IsIn f d.entries → e.name ≡ f.name → e ≡ f
one_entry d e f sound i j h =
    let p = at_in d.entries e i in
    let q = at_in d.entries f j in
    let place : p.place ≡ q.place = sound.distinct_names p.place q.place e f p.at q.at h in
    same_Some e f (sym p.at ∙ ap (λ (n : ℕ). slice_get d.entries n) place ∙ q.at)

-- ---- formats and flags

below_grouped : (x : PlainFormat) → FormatBelow x Grouped → ⊥
below_grouped Grouped h = h
below_grouped x h = absurd cc

grouped_below : (y : PlainFormat) → FormatBelow Grouped y → y ≡ AnyBytes OctetString
grouped_below (AnyBytes OctetString) h = refl
grouped_below Grouped h = absurd h
grouped_below y h = absurd cc

m_kept : (r s : MRule) (flags : ℕ) → (s ≡ AnyM) ⊎ (s ≡ r) → MHolds r flags → MHolds s flags
m_kept r s flags (inl e) h = subst (λ (t : MRule). MHolds t flags) (sym e) tt
m_kept r s flags (inr e) h = subst (λ (t : MRule). MHolds t flags) (sym e) h

m_clear : (r : MRule) (flags : ℕ) → r ≢ Must → (¬ HasM flags) → MHolds r flags
m_clear Must flags other clear = absurd (other refl)
m_clear MustNot flags other clear = clear
m_clear AnyM flags other clear = tt

pub only_kept : (u : Unknown) (flags : ℕ) → IsAccepted u flags → (u ≡ Kept) × (¬ HasM flags)
only_kept Kept flags h = (refl, h)
only_kept Refused flags h = absurd h

pub key_in : (avps : List PlainAvp) (q : Key) → IsIn q (map key_of avps) → (v : PlainAvp) × IsIn v avps × (key_of v ≡ q)
key_in [] q h = absurd h
key_in (v ∷ avps) q (inl e) = (v, inl refl, sym e)
key_in (v ∷ avps) q (inr h) = let r = key_in avps q h in (r.0, inr r.1, r.2)

pub in_keys : (avps : List PlainAvp) (v : PlainAvp) → IsIn v avps → IsIn (key_of v) (map key_of avps)
in_keys [] v h = absurd h
in_keys (w ∷ avps) v (inl e) = inl (ap key_of e)
in_keys (w ∷ avps) v (inr h) = inr (in_keys avps v h)

-- ---- the table

-- an AVP that fits is known, or the policy accepts it
kept_or_known : (d : Dictionary) (u : Unknown) (P : List DRule → List ℕ → Type 0) (v : PlainAvp) (o : Option DictEntry) → known d (key_of v) ≡ o
    → MatchOption o (IsAccepted u v.flags) (λ e. MHolds e.rule v.flags × MatchOption e.group (IsLeaf e.format v.bytes) (λ group. P group.rules v.bytes)) → (u ≡ Kept) ⊎ IsKnown d (key_of v)
kept_or_known d u P v None at h = inl (only_kept u v.flags h).0
kept_or_known d u P v (Some e) at h = inr (ap (λ (o : Option DictEntry). is_some o) at)

fits_known : (d : Dictionary) (u : Unknown) (n : ℕ) (v : PlainAvp) → Fits d u n v → (u ≡ Kept) ⊎ IsKnown d (key_of v)
fits_known d u zero v h = kept_or_known d u (λ rules bytes. ⊥) v (known d (key_of v)) refl h
fits_known d u (suc n) v h = kept_or_known d u (IsLevel (Fits d u n)) v (known d (key_of v)) refl h

-- AVPs that fit, and are where the first of two definitions says, are where the second says if it passes each test
module _ (da db : Dictionary) (u : Unknown) (table : PlainTable) (a b : List DRule) (ra : AreRules a) (rb : AreRules b) (below : DefBelow da db u (IsPairKey da db table) a b)
    (avps : List PlainAvp) (placed : Placed a (map key_of avps)) where
  pub placed_at : (n : ℕ) → AllByRecursion (Fits da u n) avps → Placed b (map key_of avps)
  placed_at n all = still_placed da db u (IsPairKey da db table) a b ra rb below (map key_of avps) placed (λ q i.
      let v = key_in avps q i in
      subst (λ (k : Key). (u ≡ Kept) ⊎ IsKnown da k) v.2 (fits_known da u n v.0 (in_all (Fits da u n) v.0 avps all v.1)))

  pub placed_below : (most : Levels) → AllFit da u most avps → Placed b (map key_of avps)
  placed_below levels.Any (n, all) = placed_at n all
  placed_below (levels.AtMost n) all = placed_at n all

module _ (da db : Dictionary) (sa : IsDictionary da) (sb : IsDictionary db) (u : Unknown) (table : PlainTable) (closed : IsClosed da db u table) where
  abbrev pub Below : List DRule → List DRule → Type 0
  Below a b = DefBelow da db u (IsPairKey da db table) a b

  -- the two entries of a pair
  pub record PairOf (key : Key) : Type 0 where
    pub e : DictEntry
    pub f : DictEntry
    pub in_a : IsIn e da.entries
    pub in_b : IsIn f db.entries
    pub key_a : e.key ≡ key
    pub key_b : f.key ≡ key
    pub pair : AvpPair e f
    pub deeper : (x y : PlainDefinition) → BothGrouped e f → e.group ≡ Some x → f.group ≡ Some y → Below x.rules y.rules

  pub pair_of : (key : Key) → IsPairKey da db table key → PairOf key
  pair_of key (p, inside, e0, f0, n0, m0, k0, l0) = record {
    e = e;
    f = f;
    in_a = in_contains da.entries e n.0;
    in_b = in_contains db.entries f m.0;
    key_a = ap (λ (x : DictEntry). x.key) (one_entry da e e0 sa (in_contains da.entries e n.0) (in_contains da.entries e0 n0.0) (n.1 ∙ sym n0.1)) ∙ k0;
    key_b = ap (λ (x : DictEntry). x.key) (one_entry db f f0 sb (in_contains db.entries f m.0) (in_contains db.entries f0 m0.0) (m.1 ∙ sym m0.1)) ∙ l0;
    pair = tenth.4;
    deeper = each;
  }
    where
      here : IsAt table.avps p
      here = at_Contains table.avps p inside

      passes : (test : Test) → AvpTest da db table u test p
      passes test = subst (λ (o : Option (List ℕ × List ℕ)). IfSome o (AvpTest da db table u test)) here.at (closed kind.Avp here.place test)

      tenth : (e f : DictEntry) × NamesEntry da p.0 e × NamesEntry db p.1 f × AvpPair e f
      tenth = passes N10

      e : DictEntry
      e = tenth.0

      f : DictEntry
      f = tenth.1

      n : NamesEntry da p.0 e
      n = tenth.2

      m : NamesEntry db p.1 f
      m = tenth.3

      each : (x y : PlainDefinition) → BothGrouped e f → e.group ≡ Some x → f.group ≡ Some y → Below x.rules y.rules
      each x y both gx gy N1 = passes N1 e f x y n m both gx gy
      each x y both gx gy N2 = passes N2 e f x y n m both gx gy
      each x y both gx gy N3 = passes N3 e f x y n m both gx gy
      each x y both gx gy N4 = passes N4 e f x y n m both gx gy
      each x y both gx gy N5 = passes N5 e f x y n m both gx gy
      each x y both gx gy N6 = passes N6 e f x y n m both gx gy
      each x y both gx gy N7 = passes N7 e f x y n m both gx gy
      each x y both gx gy N8 = passes N8 e f x y n m both gx gy
      each x y both gx gy N9 = passes N9 e f x y n m both gx gy
      each x y both gx gy N10 = tt

  -- what B may make of a key that A does not know
  abbrev pub IsNew : Key → Type 0
  IsNew key = (known da key ≡ None) × (u ≡ Kept → (f : DictEntry) → known db key ≡ Some f → (f.format ≡ AnyBytes OctetString) × (f.rule ≢ Must))

  abbrev pub MayCome : Key → Type 0
  MayCome key = IsCovered da db u (IsPairKey da db table) key ⊎ IsNew key

  abbrev Body : (List DRule → List ℕ → Type 0) → PlainAvp → Option DictEntry → Type 0
  Body Inner v o = MatchOption o (IsAccepted u v.flags) (λ e. MHolds e.rule v.flags × MatchOption e.group (IsLeaf e.format v.bytes) (λ group. Inner group.rules v.bytes))

  -- what a group of A's may have, the B group paired with it may have
  abbrev Lifts : (List DRule → List ℕ → Type 0) → (List DRule → List ℕ → Type 0) → Type 0
  Lifts P Q = (a b : List DRule) (bytes : List ℕ) → AreRules a → AreRules b → Below a b → P a bytes → Q b bytes

  data_below : (P : List DRule → List ℕ → Type 0) (e f : DictEntry) (bytes : List ℕ) (o : Option PlainDefinition) → IsIn e da.entries → e.group ≡ o → FormatBelow e.format f.format
      → MatchOption o (IsLeaf e.format bytes) (λ group. P group.rules bytes) → IsLeaf f.format bytes
  data_below P e f bytes None i g below h = leaf_below e.format f.format below bytes h
  data_below P e f bytes (Some group) i g below h =
      let octets = grouped_below f.format (subst (λ (x : PlainFormat). FormatBelow x f.format) (is_grouped da e group sa i g) below) in
      subst (λ (x : PlainFormat). IsLeaf x bytes) (sym octets) tt

  data_of : (P Q : List DRule → List ℕ → Type 0) (key : Key) (r : PairOf key) (bytes : List ℕ) → Lifts P Q → FormatBelow r.e.format r.f.format ⊎ BothGrouped r.e r.f
      → MatchOption r.e.group (IsLeaf r.e.format bytes) (λ group. P group.rules bytes) → MatchOption r.f.group (IsLeaf r.f.format bytes) (λ group. Q group.rules bytes)
  data_of P Q key r bytes lifts (inl below) h =
      let none = no_group db r.f sb r.in_b (λ is. below_grouped r.e.format (subst (λ (x : PlainFormat). FormatBelow r.e.format x) is below)) in
      subst (λ (o : Option PlainDefinition). MatchOption o (IsLeaf r.f.format bytes) (λ group. Q group.rules bytes)) (sym none) (data_below P r.e r.f bytes r.e.group r.in_a refl below h)
  data_of P Q key r bytes lifts (inr both) h =
      let x = has_group da r.e sa r.in_a both.0 in
      let y = has_group db r.f sb r.in_b both.1 in
      let inner : P x.0.rules bytes = subst (λ (o : Option PlainDefinition). MatchOption o (IsLeaf r.e.format bytes) (λ group. P group.rules bytes)) x.1 h in
      subst (λ (o : Option PlainDefinition). MatchOption o (IsLeaf r.f.format bytes) (λ group. Q group.rules bytes)) (sym y.1)
      (lifts x.0.rules y.0.rules bytes (group_rules da r.e x.0 sa r.in_a x.1) (group_rules db r.f y.0 sb r.in_b y.1) (r.deeper x.0 y.0 both x.1 y.1) inner)

  in_pair : (P Q : List DRule → List ℕ → Type 0) (v : PlainAvp) → Lifts P Q → PairOf (key_of v) → FitsBy da u P v → FitsBy db u Q v
  in_pair P Q v lifts r h =
      let here : Body P v (Some r.e) = subst (Body P v) (entry_known da (key_of v) r.e sa r.in_a r.key_a) h in
      subst (Body Q v) (sym (entry_known db (key_of v) r.f sb r.in_b r.key_b)) (m_kept r.e.rule r.f.rule v.flags r.pair.m_rule here.0, data_of P Q (key_of v) r v.bytes lifts r.pair.format here.1)

  alone : (P Q : List DRule → List ℕ → Type 0) (v : PlainAvp) → IsCoveredAlone da db u (key_of v) → FitsBy da u P v → FitsBy db u Q v
  alone P Q v (kept, none, e, at, rule) h =
      let here : Body P v (Some e) = subst (Body P v) at h in
      let clear : MHolds MustNot v.flags = subst (λ (t : MRule). MHolds t v.flags) rule here.0 in
      subst (Body Q v) (sym none) (subst (λ (p : Unknown). IsAccepted p v.flags) (sym kept) clear)

  new_at : (Q : List DRule → List ℕ → Type 0) (v : PlainAvp) (o : Option DictEntry) → known db (key_of v) ≡ o → IsAccepted u v.flags → IsNew (key_of v) → Body Q v o
  new_at Q v None at h new = h
  new_at Q v (Some f) at h new =
      let k = only_kept u v.flags h in
      let n = new.1 k.0 f at in
      let none = no_group db f sb (known_entry db (key_of v) f at).0 (λ is. absurd (let e : (AnyBytes OctetString) ≡ Grouped = sym n.0 ∙ is in cc)) in (
        m_clear f.rule v.flags n.1 k.1,
        subst (λ (g : Option PlainDefinition). MatchOption g (IsLeaf f.format v.bytes) (λ group. Q group.rules v.bytes)) (sym none)
            (subst (λ (x : PlainFormat). IsLeaf x v.bytes) (sym n.0) tt),
      )

  lifted : (P Q : List DRule → List ℕ → Type 0) (v : PlainAvp) → Lifts P Q → MayCome (key_of v) → FitsBy da u P v → FitsBy db u Q v
  lifted P Q v lifts (inl (inl paired)) h = in_pair P Q v lifts (pair_of (key_of v) paired) h
  lifted P Q v lifts (inl (inr solo)) h = alone P Q v solo h
  lifted P Q v lifts (inr new) h = new_at Q v (known db (key_of v)) refl (subst (Body P v) new.0 h) new

  -- ---- a level

  through : (a b : List DRule) (key : Key) (o : Option DictEntry) → Below a b → ByWild a key → known da key ≡ o → MayCome key
  through a b key (Some e) below w at =
      inl ((below N9 w.wild (contains_in a w.wild w.is_rule, w.no_key) w.allowed).known_keys key (ap (λ (o : Option DictEntry). is_some o) at) (λ l.
      let true_too = is_listed_by a key l.0 (in_contains a l.0 l.1.0) l.1.1 in absurd (let e : true ≡ false = sym true_too ∙ w.unlisted in cc)))
  through a b key None below w at =
      inr (
        at,
        λ kept f is. (below N9 w.wild (contains_in a w.wild w.is_rule, w.no_key) w.allowed).new_keys kept key f is
            (λ some. absurd (let e : true ≡ false = sym some ∙ ap (λ (o : Option DictEntry). is_some o) at in cc)),
      )

  may_come : (a b : List DRule) (key : Key) → Below a b → Comes a key → MayCome key
  may_come a b key below (inl r) = inl (below N4 key r.rule (contains_in a r.rule r.is_rule, r.is_key) r.allowed)
  may_come a b key below (inr w) = through a b key (known da key) below w refl

  abbrev AllKept : ℕ → Type 0
  AllKept n = (v : PlainAvp) → MayCome (key_of v) → Fits da u n v → Fits db u n v

  level_at : (n : ℕ) → AllKept n → (a b : List DRule) (avps : List PlainAvp) → AreRules a → AreRules b → Below a b → Placed a (map key_of avps) → AllByRecursion (Fits da u n) avps
      → Placed b (map key_of avps) × AllByRecursion (Fits db u n) avps
  level_at n ih a b avps ra rb below placed all = (
    placed_at da db u table a b ra rb below avps placed n all,
    all_in (Fits db u n) avps (λ v i. ih v (may_come a b (key_of v) below (comes a ra (map key_of avps) placed (key_of v) (in_keys avps v i))) (in_all (Fits da u n) v avps all i)),
  )

  -- each AVP that may come and fits in A fits in B
  pub fits : (n : ℕ) → AllKept n
  fits zero v may h = lifted (λ rules bytes. ⊥) (λ rules bytes. ⊥) v (λ a b bytes ra rb below bad. bad) may h
  fits (suc n) v may h = lifted (IsLevel (Fits da u n)) (IsLevel (Fits db u n)) v
      (λ a b bytes ra rb below lv. let r = level_at n (fits n) a b lv.0 ra rb below lv.2 lv.3 in (lv.0, lv.1, r.0, r.1)) may h

  pub body : (most : Levels) (a b : List DRule) (avps : List PlainAvp) → AreRules a → AreRules b → Below a b → Placed a (map key_of avps) → AllFit da u most avps
      → Placed b (map key_of avps) × AllFit db u most avps
  body levels.Any a b avps ra rb below placed (n, all) = let r = level_at n (fits n) a b avps ra rb below placed all in (r.0, (n, r.1))
  body (levels.AtMost n) a b avps ra rb below placed all = level_at n (fits n) a b avps ra rb below placed all
