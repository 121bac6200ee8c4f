-- The keys of a least level that has a chosen key: in the place of one of those that its rule asks for, or one more.
use Rattle.std.proofs.Common.{◌≡◌, ℕ, zero, suc, ◌+◌, ◌<◌, ◌≤◌, max, Bool, true, false, List, [], ◌∷◌, ◌++◌, length, Option, Some, None, refl, sym, ap, subst, ◌∙◌, arith, inl, inr}
use Rattle.std.specs.Prelude.{◌⊎◌, if◌then◌else◌, IfSome, Contains}
use Rattle.std.specs.List.{AllByRecursion}
use Rattle.std.proofs.lemmas.Bool.{false_from_ne_true}
use Rattle.dia_wire.specs.declared.Key.{Key}
use Rattle.dia_book.specs.declared.DRule.{DRule}
use Rattle.dia_book.specs.Dictionary.{AreRules}
use Rattle.dia_valid.specs.Valid.{InBounds, Placed, is_listed}
use Rattle.dia_valid.proofs.Members.{IsIn, all_append, all_in, contains_in, in_left, in_right}
use Rattle.dia_valid.proofs.RuleCounts.{counts_key}
use Rattle.dia_valid.proofs.RulesOfKeys.{is_listed_by}
use Rattle.dia_breaking_levels.specs.LeastLevels.{IsFiller, copies, counts_part, or_filler, plan, planned, total}
use Rattle.dia_breaking_levels.proofs.CountsAndRanks.{one_rule, rules_sound}
use Rattle.dia_breaking_levels.proofs.LeastLevels.{CountApart, IsPart, bounds_of, copies_part, count_apart, counts_own, in_copies, length_copies, not_both, planned_placed, total-append}

-- ---- parts

-- P holds of the keys, if it does of each part's
planned_all : (P : Key → Type 0) (part : DRule → List Key) (rules : List DRule) → ((r : DRule) → IsIn r rules → AllByRecursion P (part r)) → AllByRecursion P (planned part rules)
planned_all P part [] each = tt
planned_all P part (r ∷ rules) each = all_append P (part r) (planned part rules) (each r (inl refl)) (planned_all P part rules (λ s i. each s (inr i)))

into_planned : (part : DRule → List Key) (rules : List DRule) (r : DRule) (q : Key) → IsIn r rules → IsIn q (part r) → IsIn q (planned part rules)
into_planned part [] r q i here = absurd i
into_planned part (s ∷ rules) r q (inl same) here = in_left (part s) (planned part rules) q (subst (λ (t : DRule). IsIn q (part t)) same here)
into_planned part (s ∷ rules) r q (inr i) here = in_right (part s) (planned part rules) q (into_planned part rules r q i here)

module _ (part other : DRule → List Key) where
  planned_same : (rules : List DRule) → ((r : DRule) → IsIn r rules → part r ≡ other r) → planned part rules ≡ planned other rules
  planned_same [] each = refl
  planned_same (r ∷ rules) each =
      ap (λ (xs : List Key). xs ++ planned part rules) (each r (inl refl))
      ∙ ap (λ (xs : List Key). other r ++ xs) (planned_same rules (λ s i. each s (inr i)))

  -- plans that differ in the part of the rule alone that counts the key
  planned_total : (f : Key → ℕ) (test : DRule → Key → Bool) (key : Key) (rules : List DRule) (rule : DRule) → CountApart test rules → IsIn rule rules → test rule key ≡ true
      → ((s : DRule) → test s key ≡ false → part s ≡ other s) → total f (planned part rules) + total f (other rule) ≡ total f (planned other rules) + total f (part rule)
  planned_total f test key [] rule apart i own same = absurd i
  planned_total f test key (r ∷ rules) rule apart (inl e) own same =
      let counts : test r key ≡ true = subst (λ (t : DRule). test t key ≡ true) e own in
      let rest = ap (total f) (planned_same rules (λ s i. same s (false_from_ne_true (test s key) (λ t. not_both (test r key) counts (apart.0 s i key t))))) in
      let first = total-append f (part r) (planned part rules) in
      let second = total-append f (other r) (planned other rules) in
      let here : total f (part rule) ≡ total f (part r) = ap (λ (t : DRule). total f (part t)) e in
      let there : total f (other rule) ≡ total f (other r) = ap (λ (t : DRule). total f (other t)) e in
      omega (arith, rest, first, second, here, there)
  planned_total f test key (r ∷ rules) rule apart (inr i) own same =
      let here : total f (part r) ≡ total f (other r) = ap (total f) (same r (apart.0 rule i key own)) in
      let first = total-append f (part r) (planned part rules) in
      let second = total-append f (other r) (planned other rules) in
      let ih = planned_total f test key rules rule apart.1 i own same in
      omega (arith, here, first, second, ih)

-- ---- a key among copies

-- the key in the place of one of the copies, or alone
abbrev pub among : Key → ℕ → Key → List Key
among key zero k = key ∷ []
among key (suc n) k = key ∷ copies n k

has_key : (key : Key) (n : ℕ) (k : Key) → IsIn key (among key n k)
has_key key zero k = inl refl
has_key key (suc n) k = inl refl

in_among : (key : Key) (n : ℕ) (k q : Key) → IsIn q (among key n k) → (q ≡ key) ⊎ IsIn q (copies n k)
in_among key zero k q (inl e) = inl e
in_among key zero k q (inr i) = absurd i
in_among key (suc n) k q (inl e) = inl e
in_among key (suc n) k q (inr i) = inr (inr i)

among_length : (key : Key) (n : ℕ) (k : Key) → length (among key n k) ≡ max 1 n
among_length key zero k = omega arith
among_length key (suc n) k = let rest = length_copies n k in omega (arith, rest)

alone_total : (f : Key → ℕ) (key : Key) (n : ℕ) (k : Key) → n ≡ 0 → total f (among key n k) ≡ f key + total f (copies n k)
alone_total f key zero k none = refl
alone_total f key (suc n) k none = absurd (omega (arith, none))

instead_total : (f : Key → ℕ) (key : Key) (n : ℕ) (k : Key) → 0 < n → total f (among key n k) + f k ≡ f key + total f (copies n k)
instead_total f key zero k some = absurd (omega (arith, some))
instead_total f key (suc n) k some = omega arith

-- ---- the level

room_for : (n : ℕ) (most : Option ℕ) → IfSome most (λ m. 1 ≤ m) → IfSome most (λ m. n ≤ m) → IfSome most (λ m. max 1 n ≤ m)
room_for n None one all = tt
room_for n (Some m) one all = omega (arith, one, all)

module _ (rules : List DRule) (are : AreRules rules) (filler key : Key) (rule : DRule) (is_rule : IsIn rule rules) (own : counts_key rules rule key ≡ true) (room : IfSome rule.max (λ m. 1 ≤ m))
    (free : IsFiller 0 rules filler) where
  abbrev least_part : DRule → List Key
  least_part = counts_part (λ r. r.min) filler

  abbrev chosen_part : DRule → List Key
  chosen_part s = if counts_key rules s key then among key s.min (or_filler filler s.key) else least_part s

  -- each rule's key as often as its min, and the chosen one
  abbrev pub chosen : List Key
  chosen = planned chosen_part rules

  -- one rule counts the key
  counts_one : (s : DRule) → IsIn s rules → counts_key rules s key ≡ true → s ≡ rule
  counts_one s i counts = one_rule rules s rule (rules_sound rules are) i is_rule (by (counts_own rules s key counts) (counts_own rules rule key own))
    where
      by : (s.key ≡ Some key) ⊎ ((s.key ≡ None) × (is_listed rules key ≡ false)) → (rule.key ≡ Some key) ⊎ ((rule.key ≡ None) × (is_listed rules key ≡ false)) → s.key ≡ rule.key
      by (inl e) (inl g) = e ∙ sym g
      by (inl e) (inr g) = absurd (not_both (is_listed rules key) (is_listed_by rules key s i e) g.1)
      by (inr e) (inl g) = absurd (not_both (is_listed rules key) (is_listed_by rules key rule is_rule g) e.1)
      by (inr e) (inr g) = e.0 ∙ sym g.0

  in_chosen : (s : DRule) (q : Key) → IsIn q (chosen_part s) → ((q ≡ key) × (counts_key rules s key ≡ true)) ⊎ IsIn q (least_part s)
  in_chosen s q = by (counts_key rules s key) refl
    where
      by : (b : Bool) → counts_key rules s key ≡ b → IsIn q (if b then among key s.min (or_filler filler s.key) else least_part s)
          → ((q ≡ key) × (counts_key rules s key ≡ true)) ⊎ IsIn q (least_part s)
      by false e i = inr i
      by true e i = test (in_among key s.min (or_filler filler s.key) q i)
        where
          test : (q ≡ key) ⊎ IsIn q (least_part s) → ((q ≡ key) × (counts_key rules s key ≡ true)) ⊎ IsIn q (least_part s)
          test (inl same) = inl (same, e)
          test (inr j) = inr j

  asked : (s : DRule) → IsIn s rules → IsPart rules s (least_part s)
  asked s i = copies_part rules filler s s.min i (λ none some. free (s, (contains_in rules s i, none), some)) (omega arith, bounds_of rules s are i)

  chosen_is : (s : DRule) → IsIn s rules → IsPart rules s (chosen_part s)
  chosen_is s i = record {
    own = λ q j. counts q (in_chosen s q j);
    bounds = by (counts_key rules s key) refl;
  }
    where
      counts : (q : Key) → ((q ≡ key) × (counts_key rules s key ≡ true)) ⊎ IsIn q (least_part s) → counts_key rules s q ≡ true
      counts q (inl e) = ap (counts_key rules s) e.0 ∙ e.1
      counts q (inr j) = (asked s i).own q j

      by : (b : Bool) → counts_key rules s key ≡ b → InBounds s (length (if b then among key s.min (or_filler filler s.key) else least_part s))
      by false e = (asked s i).bounds
      by true e =
          let fits = subst (λ (t : DRule). IfSome t.max (λ m. 1 ≤ m)) (sym (counts_one s i e)) room in
          subst (InBounds s) (sym (among_length key s.min (or_filler filler s.key))) (omega arith, room_for s.min s.max fits (bounds_of rules s are i))

  pub chosen_placed : Placed rules chosen
  chosen_placed = planned_placed rules chosen_part are chosen_is

  own_part : chosen_part rule ≡ among key rule.min (or_filler filler rule.key)
  own_part = ap (λ (b : Bool). if b then among key rule.min (or_filler filler rule.key) else least_part rule) own

  pub chosen_has : Contains chosen key
  chosen_has =
      contains_in chosen key (into_planned chosen_part rules rule key is_rule (subst (λ (xs : List Key). IsIn key xs) (sym own_part) (has_key key rule.min (or_filler filler rule.key))))

  -- P holds of all, if it does of the chosen one and of each that a rule asks for
  pub chosen_all : (P : Key → Type 0) → P key → ((r : DRule) → IsIn r rules → 1 ≤ r.min → P (or_filler filler r.key)) → AllByRecursion P chosen
  chosen_all P here each = planned_all P chosen_part rules (λ s i. all_in P (chosen_part s) (λ q j. by s i q (in_chosen s q j)))
    where
      by : (s : DRule) → IsIn s rules → (q : Key) → ((q ≡ key) × (counts_key rules s key ≡ true)) ⊎ IsIn q (least_part s) → P q
      by s i q (inl e) = subst P (sym e.0) here
      by s i q (inr j) = let c = in_copies s.min (or_filler filler s.key) q j in subst P (sym c.0) (each s i (let some = c.1 in omega (arith, some)))

  more_total : (f : Key → ℕ) → total f chosen + total f (least_part rule) ≡ total f (plan filler rules) + total f (among key rule.min (or_filler filler rule.key))
  more_total f =
      let all = planned_total chosen_part least_part f (counts_key rules) key rules rule (count_apart rules rules are.distinct (λ r i. i)) is_rule own
      (λ s none. ap (λ (b : Bool). if b then among key s.min (or_filler filler s.key) else least_part s) none) in
      let here = ap (total f) own_part in
      omega (arith, all, here)

  -- where its rule asks for none, the level has one AVP more
  pub one_more : (f : Key → ℕ) → rule.min ≡ 0 → total f chosen ≡ total f (plan filler rules) + f key
  one_more f none =
      let all = more_total f in
      let alone = alone_total f key rule.min (or_filler filler rule.key) none in
      omega (arith, all, alone)

  -- and else one in the place of another
  pub one_instead : (f : Key → ℕ) → 0 < rule.min → total f chosen + f (or_filler filler rule.key) ≡ total f (plan filler rules) + f key
  one_instead f some =
      let all = more_total f in
      let instead = instead_total f key rule.min (or_filler filler rule.key) some in
      omega (arith, all, instead)
