-- A level in which a walk finds nothing is one whose AVPs fit.
use Rattle.std.proofs.Common.{◌≡◌, ℕ, zero, suc, ◌+◌, ◌<◌, ◌≤◌, Bool, true, false, List, [], ◌∷◌, ◌++◌, length, map, filter, drop}
use Rattle.std.proofs.Common.{Option, Some, None, refl, sym, ap, subst, ◌∙◌, arith, inl, inr, ⊎_elim, append_assoc}
use Rattle.std.specs.Prelude.{slice_get, slice_index, nat_lt, not, ◌||◌, ◌⊎◌, IsTrue, IsSome, IfSome, MatchOption, option_and_then, ◌↔◌}
use Rattle.std.specs.List.{list_any, filter_map, cons_option, AllByRecursion}
use Rattle.std.proofs.Math.ListN.{drop_of_length-le}
use Rattle.std.proofs.lemmas.Bool.{ltb-false, ltb-true}
use Rattle.std.proofs.lemmas.List.{append-nil, length-append, map-append, length-map}
use Rattle.std.proofs.lemmas.Option.{none-some, same_Some, slice_get_within}
use Rattle.dia_wire.specs.declared.Key.{Key}
use Rattle.dia_wire.specs.Wire.{PlainAvp, key_of, avp_length, BeginsWith, SpellsAll}
use Rattle.dia_wire.proofs.Spelling.{opened, rounded-le, at_least_8}
use Rattle.dia_data.specs.Plain.{Grouped}
use Rattle.dia_data.specs.Leaf.{IsLeaf}
use Rattle.dia_book.specs.declared.MRule.{MRule}
use Rattle.dia_book.specs.declared.MRule.TheVariants.{Must, MustNot, Any as AnyM}
use Rattle.dia_book.specs.declared.DRule.{DRule}
use Rattle.dia_book.specs.Dictionary.{Dictionary, DictEntry, IsDictionary, AreRules, PlainDefinition, groups, definitions, entry_of, is_fixed, lists_key}
use Rattle.dia_book.proofs.NumberedGroups.{slice_get-append_left}
use Rattle.dia_terms.specs.declared.Unknown.{Unknown}
use Rattle.dia_terms.specs.declared.Unknown.TheVariants.{Kept, Refused}
use Rattle.dia_terms.specs.declared.Levels.{Levels}
use Rattle.dia_terms.specs.declared.Levels.TheVariants.{Any, AtMost}
use Rattle.dia_valid.proofs.Entries.{all_at}
use Rattle.dia_check.specs.declared.fault.Reason.TheVariants as reason
use Rattle.dia_check.specs.declared.fault.Subject.TheVariants.{Avp}
use Rattle.dia_valid.specs.Valid.{known, Placed, IsLevel, Fits, FitsBy, MHolds, IsAccepted, MayBeLoose, fixed_rules, loose_rules, is_listed, has_wildcard, counted}
use Rattle.dia_check.specs.Levels.{MayOpen}
use Rattle.dia_valid.specs.LongestRuns.{runs, met, loose_start}
use Rattle.dia_check.specs.Faults.{IsFirstMissing, unknown, m_bit, not_allowed, too_many, depth}
use Rattle.dia_valid.proofs.RunsOfOneKeyMore.{at_start}
use Rattle.dia_valid.proofs.RuleCounts.{met_fixed, met_loose}
use Rattle.dia_check.proofs.FaultlessKeys.{Counted, counted_more, counted_placed}
use Rattle.dia_check.specs.Walks.{Found, Rest, following, inside, IsFine, Walks, ended, missing, broken, wrong, leaf, group, bad_group}
use Rattle.dia_valid.specs.Valid.{group_at}

-- a level of these bytes at a depth needs no more than so many levels
abbrev pub AreEnough : Levels → ℕ → ℕ → List ℕ → Type 0
AreEnough Any n deep bytes = length bytes ≤ n
AreEnough (AtMost most) n deep bytes = deep + n ≡ most

-- ---- before the first key

zero_runs : (rules : List DRule) (i : ℕ) → slice_index (runs rules []) i ≡ 0
zero_runs [] i = refl
zero_runs (r ∷ rules) zero = refl
zero_runs (r ∷ rules) (suc i) = zero_runs rules i

pub met_none : (rules : List DRule) (i : ℕ) (rule : DRule) → met rules [] i rule ≡ 0
met_none rules i rule = by (is_fixed rule) refl
  where
    by : (b : Bool) → is_fixed rule ≡ b → met rules [] i rule ≡ 0
    by true e = met_fixed rules [] i rule e ∙ zero_runs (fixed_rules rules) i
    by false e = met_loose rules [] i rule e ∙ ap (counted rules rule) (drop_of_length-le [] (omega arith))

few_none : (rules : List DRule) (i : ℕ) (rule : DRule) (o : Option ℕ) → IfSome o (λ max. met rules [] i rule ≤ max)
few_none rules i rule None = tt
few_none rules i rule (Some max) = let e = met_none rules i rule in omega (arith, e)

nothing_loose : (rules : List DRule) (n : ℕ) → AllByRecursion (MayBeLoose rules) (drop n [])
nothing_loose rules zero = tt
nothing_loose rules (suc n) = tt

pub counted_none : (rules : List DRule) → Counted rules []
counted_none rules = record {
  run = 0;
  at = at_start (fixed_rules rules);
  few = λ i rule here. few_none rules i rule rule.max;
  loose = nothing_loose rules (loose_start rules []);
}

-- ---- no rule is met too seldom

not_missing : (rules : List DRule) (keys : List Key) (j : ℕ) (rule : DRule) (b : Bool) → ((i : ℕ) (rule : DRule) → ¬ IsFirstMissing rules keys i rule) → slice_get rules j ≡ Some rule
    → ((i : ℕ) (other : DRule) → i < j → slice_get rules i ≡ Some other → other.min ≤ met rules keys i other) → nat_lt (met rules keys j rule) rule.min ≡ b → rule.min ≤ met rules keys j rule
not_missing rules keys j rule false none at before e = ltb-false (met rules keys j rule) rule.min e
not_missing rules keys j rule true none at before e = absurd (none j rule (record { is_rule = at; short = ltb-true (met rules keys j rule) rule.min e; first = before }))

pub enough_up_to : (rules : List DRule) (keys : List Key) → ((i : ℕ) (rule : DRule) → ¬ IsFirstMissing rules keys i rule) → (n j : ℕ) (rule : DRule) → j < n → slice_get rules j ≡ Some rule
    → rule.min ≤ met rules keys j rule
enough_up_to rules keys none zero j rule lt at = absurd (omega (arith, lt))
enough_up_to rules keys none (suc n) j rule lt at =
    not_missing rules keys j rule (nat_lt (met rules keys j rule) rule.min) none at (λ i other less here. enough_up_to rules keys none n i other (omega (arith, less, lt)) here) refl

-- ---- entries

entry_place : (es : List DictEntry) (o : Option ℕ) (e : DictEntry) → option_and_then (λ i. slice_get es i) o ≡ Some e → (i : ℕ) × (slice_get es i ≡ Some e)
entry_place es None e h = absurd (none-some e h)
entry_place es (Some i) e h = (i, h)

shifted : {Y : Type 0} (o : Option Y) (ys : List Y) (y : Y) → (j : ℕ) × (slice_get ys j ≡ Some y) → (j : ℕ) × (slice_get (cons_option o ys) j ≡ Some y)
shifted None ys y h = h
shifted (Some z) ys y (j, at) = (suc j, at)

into_filter_map : {X Y : Type 0} (h : X → Option Y) (xs : List X) (i : ℕ) (x : X) (y : Y) → slice_get xs i ≡ Some x → h x ≡ Some y → (j : ℕ) × (slice_get (filter_map h xs) j ≡ Some y)
into_filter_map h [] i x y at e = absurd (none-some x at)
into_filter_map h (z ∷ xs) zero x y at e = (0, ap (λ o. slice_get (cons_option o (filter_map h xs)) 0) (ap h (same_Some z x at) ∙ e))
into_filter_map h (z ∷ xs) (suc i) x y at e = shifted (h z) (filter_map h xs) y (into_filter_map h xs i x y at e)

m_holds : (r : MRule) (flags : ℕ) → ¬ (¬ MHolds r flags) → MHolds r flags
m_holds Must flags h = λ z. h (λ m. m z)
m_holds MustNot flags h = λ z. h (λ m. m z)
m_holds AnyM flags h = tt

accepted : (u : Unknown) (flags : ℕ) → ¬ (¬ IsAccepted u flags) → IsAccepted u flags
accepted Kept flags h = λ z. h (λ m. m z)
accepted Refused flags h = h (λ x. x)

may_open : (most : Levels) (n : ℕ) → ¬ (¬ MayOpen most n) → MayOpen most n
may_open Any n h = tt
may_open (AtMost m) n h = by (nat_lt n m) refl
  where
    by : (b : Bool) → nat_lt n m ≡ b → n < m
    by true e = ltb-true n m e
    by false e = let le = ltb-false n m e in absurd (h (λ lt. omega (arith, lt, le)))

-- ---- where a key may be

may_be : (rules : List DRule) (k : Key) (fixed loose listed wild : Bool) → is_listed (fixed_rules rules) k ≡ fixed → is_listed (loose_rules rules) k ≡ loose → is_listed rules k ≡ listed
    → has_wildcard rules ≡ wild
    → (listed ≡ true → (fixed ≡ true) ⊎ (loose ≡ true)) → ¬ (IsTrue (is_listed (fixed_rules rules) k) ⊎ ((is_listed rules k ≡ false) × (has_wildcard rules ≡ false))) → MayBeLoose rules k
may_be rules k fixed true listed wild f l r w split none = inl l
may_be rules k true false listed wild f l r w split none = absurd (none (inl f))
may_be rules k false false false true f l r w split none = inr (r, w)
may_be rules k false false false false f l r w split none = absurd (none (inr (r, w)))
may_be rules k false false true wild f l r w split none = ⊎_elim (λ e. absurd cc) (λ e. absurd cc) (split refl)

split_at : {X : Type 0} (p q : X → Bool) (x : X) (xs : List X) (b c : Bool) → q x ≡ b → p x ≡ c
    → (list_any p xs ≡ true → (list_any p (filter q xs) ≡ true) ⊎ (list_any p (filter (λ y. not (q y)) xs) ≡ true))
    → list_any p (x ∷ xs) ≡ true → (list_any p (filter q (x ∷ xs)) ≡ true) ⊎ (list_any p (filter (λ y. not (q y)) (x ∷ xs)) ≡ true)
split_at p q x xs true true e f ih h = inl (rw (e, f) refl)
split_at p q x xs false true e f ih h = inr (rw (e, f) refl)
split_at p q x xs true false e f ih h = ⊎_elim (λ i. inl (rw (e, f) i)) (λ j. inr (rw e j)) (ih (ap (λ (a : Bool). a || list_any p xs) (sym f) ∙ h))
split_at p q x xs false false e f ih h = ⊎_elim (λ i. inl (rw e i)) (λ j. inr (rw (e, f) j)) (ih (ap (λ (a : Bool). a || list_any p xs) (sym f) ∙ h))

listed_split : (rules : List DRule) (k : Key) → is_listed rules k ≡ true → (is_listed (fixed_rules rules) k ≡ true) ⊎ (is_listed (loose_rules rules) k ≡ true)
listed_split [] k h = absurd (let p : false ≡ true = h in cc)
listed_split (r ∷ rules) k h = split_at (lists_key k) is_fixed r rules (is_fixed r) (lists_key k r) refl refl (listed_split rules k) h

-- ---- the walk

module _ (d : Dictionary) (sound : IsDictionary d) (u : Unknown) (most : Levels) where
  pub grouped_at : (v : PlainAvp) (e : DictEntry) → known d (key_of v) ≡ Some e → (e.format ≡ Grouped) ↔ IsSome e.group
  grouped_at v e h =
      let place = entry_place d.entries (entry_of d (key_of v)) e h in
      all_at (λ (x : DictEntry). (x.format ≡ Grouped) ↔ IsSome x.group) d.entries place.0 e sound.grouped place.1

  pub group_rules : (v : PlainAvp) (e : DictEntry) (g : PlainDefinition) → known d (key_of v) ≡ Some e → e.group ≡ Some g → AreRules g.rules
  group_rules v e g h is =
      let place = entry_place d.entries (entry_of d (key_of v)) e h in
      let into = into_filter_map (λ (x : DictEntry). x.group) d.entries place.0 e g place.1 is in
      all_at (λ (def : PlainDefinition). AreRules def.rules) (definitions d) into.0 g sound.rules
      (slice_get-append_left (groups d) d.commands into.0 (slice_get_within (groups d) into.0 g into.1) ∙ into.1)

  abbrev Body : (List DRule → List ℕ → Type 0) → PlainAvp → Option DictEntry → Type 0
  Body Inner v o = MatchOption o (IsAccepted u v.flags) (λ e. MHolds e.rule v.flags × MatchOption e.group (IsLeaf e.format v.bytes) (λ group. Inner group.rules v.bytes))

  -- the entry of an AVP of which nothing is wrong
  body : (Inner : List DRule → List ℕ → Type 0) (s : Rest) (v : PlainAvp) (o : Option DictEntry) → known d (key_of v) ≡ o → IsFine d u most s v
      → ((e : DictEntry) → o ≡ Some e → MatchOption e.group (IsLeaf e.format v.bytes) (λ group. Inner group.rules v.bytes)) → Body Inner v o
  body Inner s v None h fine inner = accepted u v.flags (λ bad. fine.none_wrong reason.Unknown (Avp (key_of v)) (unknown h bad))
  body Inner s v (Some e) h fine inner = (m_holds e.rule v.flags (λ bad. fine.none_wrong reason.MBit (Avp (key_of v)) (m_bit e h bad)), inner e refl)

  fits_by : (Inner : List DRule → List ℕ → Type 0) (s : Rest) (v : PlainAvp) → IsFine d u most s v
      → ((e : DictEntry) → known d (key_of v) ≡ Some e → MatchOption e.group (IsLeaf e.format v.bytes) (λ group. Inner group.rules v.bytes)) → FitsBy d u Inner v
  fits_by Inner s v fine inner = body Inner s v (known d (key_of v)) refl fine inner

  leaf_data : (Inner : List DRule → List ℕ → Type 0) (s : Rest) (v : PlainAvp) (e : DictEntry) (o : Option PlainDefinition) → e.group ≡ o → o ≡ None → known d (key_of v) ≡ Some e → IsFine d u most s v
      → MatchOption o (IsLeaf e.format v.bytes) (λ group. Inner group.rules v.bytes)
  leaf_data Inner s v e None is none h fine = ⊎_elim (λ l. l) (λ g. absurd (let p : IsSome e.group = (grouped_at v e h).0 g in
      let q : IsSome {T = PlainDefinition} None = subst (λ (x : Option PlainDefinition). IsSome x) is p in cc)) (fine.leaf e h)
  leaf_data Inner s v e (Some g) is none h fine = absurd (none-some g (sym none))

  fits_leaf : (Inner : List DRule → List ℕ → Type 0) (s : Rest) (v : PlainAvp) → IsFine d u most s v → group_at d v ≡ None → FitsBy d u Inner v
  fits_leaf Inner s v fine none = fits_by Inner s v fine (λ e h. leaf_data Inner s v e e.group refl (ap (λ (o : Option DictEntry). option_and_then (λ (x : DictEntry). x.group) o) (sym h)
      ∙ none) h fine)

  fits_any : (n : ℕ) (v : PlainAvp) → ((Inner : List DRule → List ℕ → Type 0) → FitsBy d u Inner v) → Fits d u n v
  fits_any zero v h = h (λ rules bytes. ⊥)
  fits_any (suc n) v h = h (IsLevel (Fits d u n))

  -- ---- what follows from a walk that finds nothing

  abbrev Outcome : ℕ → Rest → Type 0
  Outcome n s = (avps : List PlainAvp) × SpellsAll avps s.bytes × Placed s.level.rules (map key_of (s.earlier ++ avps)) × AllByRecursion (Fits d u n) avps

  pub more_keys : (earlier : List PlainAvp) (v : PlainAvp) → map key_of (earlier ++ v ∷ []) ≡ map key_of earlier ++ key_of v ∷ []
  more_keys earlier v = map-append key_of earlier (v ∷ [])

  counted_after : (s : Rest) (v : PlainAvp) (rest : List ℕ) → IsFine d u most s v → Counted s.level.rules (map key_of s.earlier) → Counted s.level.rules (map key_of (s.earlier ++ v ∷ []))
  counted_after s v rest fine c =
      subst (Counted s.level.rules) (sym (more_keys s.earlier v)) (counted_more s.level.rules (map key_of s.earlier) (key_of v) c
      (λ i rule max here is before now. fine.none_wrong reason.TooMany (Avp (key_of v)) (too_many i rule (record { is_rule = here; max = max; is_max = is; before = before; now = now })))
      (λ after_runs. may_be s.level.rules (key_of v) (is_listed (fixed_rules s.level.rules) (key_of v)) (is_listed (loose_rules s.level.rules) (key_of v))
      (is_listed s.level.rules (key_of v)) (has_wildcard s.level.rules) refl refl refl refl
      (listed_split s.level.rules (key_of v)) (λ bad. fine.none_wrong reason.NotAllowed (Avp (key_of v)) (not_allowed (let e = length-map s.earlier key_of in omega (arith, after_runs, e)) bad))))

  sizes : (s : Rest) (v : PlainAvp) (rest : List ℕ) → BeginsWith v s.bytes rest → (length rest ≤ length s.bytes) × (8 + length v.bytes ≤ length s.bytes)
  sizes s v rest (front, spells, parts) =
      let o = opened v front [] spells in
      let whole : length s.bytes ≡ length front + length rest = ap length parts ∙ length-append front rest in
      (omega (arith, whole), omega (arith, whole, o.front_length, at_least_8 v.vendor, rounded-le (avp_length v)))

  enough_after : (m : Levels) (n deep : ℕ) (bytes rest : List ℕ) → length rest ≤ length bytes → AreEnough m n deep bytes → AreEnough m n deep rest
  enough_after Any n deep bytes rest less h = omega (arith, less, h)
  enough_after (AtMost k) n deep bytes rest less h = h

  enough_inside : (m : Levels) (n deep : ℕ) (bytes inner : List ℕ) → 8 + length inner ≤ length bytes → MayOpen m deep → AreEnough m n deep bytes
      → (k : ℕ) × (n ≡ suc k) × AreEnough m k (suc deep) inner
  enough_inside Any zero deep bytes inner less may h = absurd (omega (arith, less, h))
  enough_inside Any (suc k) deep bytes inner less may h = (k, refl, omega (arith, less, h))
  enough_inside (AtMost m) zero deep bytes inner less may h = absurd (omega (arith, may, h))
  enough_inside (AtMost m) (suc k) deep bytes inner less may h = (k, refl, omega (arith, h))

  pub entry_of_group : (v : PlainAvp) (g : PlainDefinition) (o : Option DictEntry) → known d (key_of v) ≡ o → option_and_then (λ (e : DictEntry). e.group) o ≡ Some g
      → (e : DictEntry) × (known d (key_of v) ≡ Some e) × (e.group ≡ Some g)
  entry_of_group v g None h is = absurd (none-some g is)
  entry_of_group v g (Some e) h is = (e, h, is)

  pub opens : (s : Rest) (v : PlainAvp) (g : PlainDefinition) → IsFine d u most s v → group_at d v ≡ Some g → MayOpen most s.level.depth
  opens s v g fine is =
      let e = entry_of_group v g (known d (key_of v)) refl is in
      let some : IsSome e.0.group = subst (λ (x : Option PlainDefinition). IsSome x) (sym e.2) refl in
      may_open most s.level.depth (λ bad. fine.none_wrong reason.Depth (Avp (key_of v)) (depth e.0 e.1 ((grouped_at v e.0 e.1).1 some) bad))

  fits_group : (k : ℕ) (s : Rest) (v : PlainAvp) (g : PlainDefinition) → IsFine d u most s v → group_at d v ≡ Some g → IsLevel (Fits d u k) g.rules v.bytes → Fits d u (suc k) v
  fits_group k s v g fine is level =
      fits_by (IsLevel (Fits d u k)) s v fine (λ e h. let same : e.group ≡ Some g = ap (λ (o : Option DictEntry). option_and_then (λ (x : DictEntry). x.group) o) (sym h) ∙ is in
      subst (λ (o : Option PlainDefinition). MatchOption o (IsLeaf e.format v.bytes) (λ group. IsLevel (Fits d u k) group.rules v.bytes)) (sym same) level)

  joined : (n : ℕ) (s : Rest) (v : PlainAvp) (rest : List ℕ) → BeginsWith v s.bytes rest → Fits d u n v → Outcome n (following s v rest) → Outcome n s
  joined n s v rest (front, spells, parts) fits (avps, spelled, is_placed, all) =
      (v ∷ avps, (front, rest, spells, parts, spelled), subst (λ (vs : List PlainAvp). Placed s.level.rules (map key_of vs)) (append_assoc s.earlier (v ∷ []) avps) is_placed, (fits, all))

  no_some : (f : Option Found) (g : Found) → f ≡ Some g → f ≡ None → ⊥
  no_some f g h none = none-some g (sym none ∙ h)

  walked : (n : ℕ) (s : Rest) (f : Option Found) → Walks d u most s f → f ≡ None → AreRules s.level.rules → Counted s.level.rules (map key_of s.earlier)
      → AreEnough most n s.level.depth s.bytes → Outcome n s
  walked n s f (ended done none is) nothing are c enough = (
    [],
    done,
    subst (λ (vs : List PlainAvp). Placed s.level.rules (map key_of vs)) (sym (append-nil s.earlier))
        (counted_placed s.level.rules (map key_of s.earlier) are c (λ i rule here. enough_up_to s.level.rules (map key_of s.earlier) none (suc i) i rule (omega arith) here)),
    tt,
  )
  walked n s f (missing i rule done first is) nothing are c enough = absurd (no_some f _ is nothing)
  walked n s f (broken some none is) nothing are c enough = absurd (no_some f _ is nothing)
  walked n s f (wrong v rest r t begins first is) nothing are c enough = absurd (no_some f _ is nothing)
  walked n s f (leaf v rest begins fine is_leaf more) nothing are c enough =
      joined n s v rest begins (fits_any n v (λ Inner. fits_leaf Inner s v fine is_leaf))
      (walked n (following s v rest) f more nothing are (counted_after s v rest fine c) (enough_after most n s.level.depth s.bytes rest (sizes s v rest begins).0 enough))
  walked n s f (group v rest g begins fine is_group inner more) nothing are c enough =
      let e = entry_of_group v g (known d (key_of v)) refl is_group in
      let (k, is_suc, enough_in) = enough_inside most n s.level.depth s.bytes v.bytes (sizes s v rest begins).1 (opens s v g fine is_group) enough in
      let level = walked k (inside s v g) None inner refl (group_rules v e.0 g e.1 e.2) (counted_none g.rules) enough_in in
      joined n s v rest begins (subst (λ (j : ℕ). Fits d u j v) (sym is_suc) (fits_group k s v g fine is_group level))
      (walked n (following s v rest) f more nothing are (counted_after s v rest fine c) (enough_after most n s.level.depth s.bytes rest (sizes s v rest begins).0 enough))
  walked n s f (bad_group v rest g h begins fine is_group inner is) nothing are c enough = absurd (no_some f _ is nothing)

  pub walks_level : (n : ℕ) (rules : List DRule) (start end deep : ℕ) (bytes : List ℕ) → AreRules rules → AreEnough most n deep bytes
      → Walks d u most (record { level = record { rules = rules; start = start; end = end; depth = deep }; earlier = []; at = start; bytes = bytes }) None → IsLevel (Fits d u n) rules bytes
  walks_level n rules start end deep bytes are enough h =
      walked n (record { level = record { rules = rules; start = start; end = end; depth = deep }; earlier = []; at = start; bytes = bytes }) None h refl are (counted_none rules) enough
