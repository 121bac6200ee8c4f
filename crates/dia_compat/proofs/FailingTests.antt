-- Nothing fails a test exactly where it is passed.
use Rattle.std.proofs.Common.{◌≡◌, ℕ, suc, ◌+◌, Bool, true, false, List, [], ◌∷◌, ◌++◌, Option, Some, None, refl, sym, ap, ◌∙◌, arith, inl, inr, Decides}
use Rattle.std.specs.Prelude.{◌||◌, ◌&&◌, ◌==◌, not, nat_le, find, position, is_some, slice_get, option_and_then, option_to_list, if◌then◌else◌}
use Rattle.std.specs.List.{filter_map, enumerate_from, cons_option, list_all}
use Rattle.std.specs.Option.{option_map, option_map_or}
use Rattle.std.proofs.lemmas.Bool.{and_parts}
use Rattle.std.proofs.lemmas.Bool.Decides.{Decides-and, Decides-like, Decides-at}
use Rattle.std.proofs.lemmas.Option.{none-some}
use Rattle.dia_wire.specs.declared.Key.{Key}
use Rattle.dia_book.specs.declared.DRule.{DRule}
use Rattle.dia_book.specs.Dictionary.{DictEntry, AreRules, is_fixed, lists_key}
use Rattle.dia_book.proofs.LookUpsByName.{find-place}
use Rattle.dia_book.proofs.Members.{find-is_some}
use Rattle.dia_valid.specs.Valid.{fixed_rules, is_listed, is_wildcard, has_wildcard}
use Rattle.dia_compat.specs.declared.checking.Test.{Test}
use Rattle.dia_compat.specs.declared.checking.Test.TheVariants.{N1, N2, N3, N4, N5, N6, N7, N8, N9, N10}
use Rattle.dia_compat.specs.declared.reasons.Failing.{Failing}
use Rattle.dia_compat.specs.declared.reasons.Failing.TheVariants as failing
use Rattle.dia_compat.specs.Sides.{Compared}
use Rattle.dia_compat.specs.Tests.{is_kept, is_within, is_max_within, is_above_zero, may_come, leads, begins_with, common_rule, let_in_rule, covered_rule, has_room}
use Rattle.dia_valid.specs.Rules.{rule_of, wildcard_of}
use Rattle.dia_compat.specs.Tests.{own_rule, listed_rule, bounded_wildcard, required_wildcard, of_key}
use Rattle.dia_compat.specs.PairTests.{is_covered, uncovered_keys, stranger_fits, strangers_fit, is_passed}
use Rattle.dia_compat.specs.Failings.{Placed, placed_at, place_of_key, placed_rule, placed_wildcard, unless, among, fails_fixed, fails_counts, fails_crowded, fails_own_key, fails_own}
use Rattle.dia_compat.specs.Failings.{fails_most, fails_few, fails_least, fails_strangers, fails_let_in, rule_failings}
use Rattle.dia_compat.proofs.DecidedTests.{FixedFirst, fixed_first, fixed_here, no_rule, tail_first}

-- ---- lists that are empty

pub unless_decides : (b : Bool) (f : Failing) → Decides b (unless b f ≡ None)
unless_decides true f = (λ e. refl, λ h. refl)
unless_decides false f = (λ e. absurd (let g : false ≡ true = e in cc), λ h. absurd (none-some f (sym h)))

pub list_decides : (b : Bool) (o : Option Failing) → Decides b (o ≡ None) → Decides b (option_to_list o ≡ [])
list_decides b None d = (λ e. refl, λ h. d.1 refl)
list_decides b (Some f) d = (λ e. absurd (none-some f (sym (d.0 e))), λ h. absurd (let g : f ∷ [] ≡ [] = h in cc))

pub append_decides : (x y : Bool) (xs ys : List Failing) → Decides x (xs ≡ []) → Decides y (ys ≡ []) → Decides (x && y) (xs ++ ys ≡ [])
append_decides x y [] ys d k = Decides-like (x && y) (λ h. h.1) (λ h. (refl, h)) (Decides-and x y d k)
append_decides x y (f ∷ xs) ys d k = (
  λ e. absurd (let g : f ∷ xs ≡ [] = d.0 (and_parts x y e).0 in cc),
  λ h. absurd (let g : f ∷ (xs ++ ys) ≡ [] = h in cc),
)

cons_decides : (x y : Bool) (o : Option Failing) (ys : List Failing) → Decides x (o ≡ None) → Decides y (ys ≡ []) → Decides (x && y) (cons_option o ys ≡ [])
cons_decides x y None ys d k = Decides-like (x && y) (λ h. h.1) (λ h. (refl, h)) (Decides-and x y d k)
cons_decides x y (Some f) ys d k = (
  λ e. absurd (none-some f (sym (d.0 (and_parts x y e).0))),
  λ h. absurd (let g : f ∷ ys ≡ [] = h in cc),
)

each_decides : {X : Type 0} (fails : X → Option Failing) (test : X → Bool) → ((x : X) → Decides (test x) (fails x ≡ None)) → (xs : List X) → Decides (list_all test xs) (filter_map fails xs ≡ [])
each_decides fails test each [] = (λ e. refl, λ h. refl)
each_decides fails test each (x ∷ xs) = cons_decides (test x) (list_all test xs) (fails x) (filter_map fails xs) (each x) (each_decides fails test each xs)

-- of members with their numbers
pub numbered_decides : {X : Type 0} (fails : ℕ × X → Option Failing) (test : X → Bool) → ((p : ℕ × X) → Decides (test p.1) (fails p ≡ None)) → (n : ℕ) (xs : List X)
    → Decides (list_all test xs) (filter_map fails (enumerate_from n xs) ≡ [])
numbered_decides fails test each n [] = (λ e. refl, λ h. refl)
numbered_decides fails test each n (x ∷ xs) =
    cons_decides (test x) (list_all test xs) (fails (n, x)) (filter_map fails (enumerate_from (n + 1) xs)) (each (n, x)) (numbered_decides fails test each (n + 1) xs)

-- where one thing is enough
or_decides : (z x : Bool) (xs : List Failing) → Decides x (xs ≡ []) → Decides (z || x) ((if z then [] else xs) ≡ [])
or_decides true x xs d = (λ e. refl, λ h. refl)
or_decides false x xs d = d

only_decides : (z x : Bool) (xs : List Failing) → Decides x (xs ≡ []) → Decides (not z || x) ((if z then xs else []) ≡ [])
only_decides true x xs d = d
only_decides false x xs d = (λ e. refl, λ h. refl)

-- ---- what is found with its place

place_decides : (test : DRule → Bool) (d : Bool) (Q : Option Placed → Type 0) → Decides d (Q None) → ((p : Placed) → Decides (test p.1) (Q (Some p))) → (rules : List DRule) (place : Option ℕ)
    → Decides (option_map_or test (option_and_then (slice_get rules) place) d) (Q (placed_at rules place))
place_decides test d Q none each rules None = none
place_decides test d Q none each rules (Some i) = by (slice_get rules i)
  where
    by : (o : Option DRule) → Decides (option_map_or test o d) (Q (option_map (λ r. (i, r)) o))
    by None = none
    by (Some r) = each (i, r)

found_decides : (p test : DRule → Bool) (d : Bool) (Q : Option Placed → Type 0) → Decides d (Q None) → ((q : Placed) → Decides (test q.1) (Q (Some q))) → (rules : List DRule)
    → Decides (option_map_or test (find p rules) d) (Q (placed_at rules (position p rules)))
found_decides p test d Q none each rules =
    Decides-at (option_map_or test (find p rules) d) (option_map_or test (option_and_then (slice_get rules) (position p rules)) d)
    (ap (λ (o : Option DRule). option_map_or test o d) (find-place p rules)) (place_decides test d Q none each rules (position p rules))

nothing_fails : Decides true (let none : Option Failing = None in none ≡ None)
nothing_fails = (λ e. refl, λ h. refl)

none_fail : Decides true (let none : List Failing = [] in none ≡ [])
none_fail = (λ e. refl, λ h. refl)

-- ---- the fixed rules

module _ (A : List DRule) where
  loose_pass : (n : ℕ) (b : List DRule) → fixed_rules b ≡ [] → filter_map (fails_fixed A) (enumerate_from n b) ≡ []
  loose_pass n [] h = refl
  loose_pass n (s ∷ b) h = by (is_fixed s) refl (λ k. loose_pass (n + 1) b k)
    where
      by : (x : Bool) → is_fixed s ≡ x → (fixed_rules b ≡ [] → filter_map (fails_fixed A) (enumerate_from (n + 1) b) ≡ []) → filter_map (fails_fixed A) (enumerate_from n (s ∷ b)) ≡ []
      by true e rest = absurd (no_rule s b e h)
      by false e rest =
          ap (λ (x : Bool). cons_option
          (unless (not x || option_map_or (λ r. leads r s) (slice_get A n) false) (failing.Fixed (option_and_then (place_of_key A) s.key) n)) (filter_map (fails_fixed A) (enumerate_from (n + 1) b))) e
          ∙ rest (sym (fixed_here s b false e) ∙ h)

  loose_decides : (n : ℕ) (a b : List DRule) (s : DRule) → FixedFirst (s ∷ b) → is_fixed s ≡ false → Decides (begins_with a (s ∷ b)) (filter_map (fails_fixed A) (enumerate_from n (s ∷ b)) ≡ [])
  loose_decides n a b s (inl h) e = absurd (let f : true ≡ false = sym h.0 ∙ e in cc)
  loose_decides n a b s (inr h) e = (λ f. loose_pass n (s ∷ b) h, λ f. passed a)
    where
      passed : (z : List DRule) → begins_with z (s ∷ b) ≡ true
      passed [] = ap not e
      passed (r ∷ z) = ap (λ (x : Bool). not x || (leads r s && begins_with z b)) e

  -- the rules a are those of A from a place on
  leading_decides : (n : ℕ) (a b : List DRule) → ((k : ℕ) → slice_get A (n + k) ≡ slice_get a k) → FixedFirst b → Decides (begins_with a b) (filter_map (fails_fixed A) (enumerate_from n b) ≡ [])
  leading_decides n [] [] at h = (λ e. refl, λ h. refl)
  leading_decides n (r ∷ a) [] at h = (λ e. refl, λ h. refl)
  leading_decides n [] (s ∷ b) at h = by (is_fixed s) refl (λ e. leading_decides (n + 1) [] b (λ k. further k) (tail_first s b h e))
    where
      further : (k : ℕ) → slice_get A ((n + 1) + k) ≡ None
      further k = let same : (n + 1) + k ≡ n + suc k = omega arith in ap (slice_get A) same ∙ at (suc k)

      by : (x : Bool) → is_fixed s ≡ x → (is_fixed s ≡ true → Decides (begins_with [] b) (filter_map (fails_fixed A) (enumerate_from (n + 1) b) ≡ []))
          → Decides (begins_with [] (s ∷ b)) (filter_map (fails_fixed A) (enumerate_from n (s ∷ b)) ≡ [])
      by false e rest = loose_decides n [] b s h e
      by true e rest =
          let led = option_map_or (λ r. leads r s) (slice_get A n) false in
          let here : n ≡ n + 0 = omega arith in
          let none : slice_get A n ≡ None = ap (slice_get A) here ∙ at 0 in
          Decides-at (not (is_fixed s)) (led && begins_with [] b)
          (ap not e ∙ ap (λ (o : Option DRule). option_map_or (λ r. leads r s) o false && begins_with [] b) (sym none))
          (cons_decides led (begins_with [] b) (fails_fixed A (n, s)) (filter_map (fails_fixed A) (enumerate_from (n + 1) b))
          (Decides-at led (not (is_fixed s) || led) (ap (λ (x : Bool). not x || led) (sym e))
          (unless_decides (not (is_fixed s) || led) (failing.Fixed (option_and_then (place_of_key A) s.key) n))) (rest e))
  leading_decides n (r ∷ a) (s ∷ b) at h = by (is_fixed s) refl (λ e. leading_decides (n + 1) a b (λ k. further k) (tail_first s b h e))
    where
      further : (k : ℕ) → slice_get A ((n + 1) + k) ≡ slice_get a k
      further k = let same : (n + 1) + k ≡ n + suc k = omega arith in ap (slice_get A) same ∙ at (suc k)

      by : (x : Bool) → is_fixed s ≡ x → (is_fixed s ≡ true → Decides (begins_with a b) (filter_map (fails_fixed A) (enumerate_from (n + 1) b) ≡ []))
          → Decides (begins_with (r ∷ a) (s ∷ b)) (filter_map (fails_fixed A) (enumerate_from n (s ∷ b)) ≡ [])
      by false e rest = loose_decides n (r ∷ a) b s h e
      by true e rest =
          let led = option_map_or (λ r. leads r s) (slice_get A n) false in
          let here : n ≡ n + 0 = omega arith in
          let own : slice_get A n ≡ Some r = ap (slice_get A) here ∙ at 0 in
          Decides-at (not (is_fixed s) || (leads r s && begins_with a b)) (led && begins_with a b)
          (ap (λ (x : Bool). not x || (leads r s && begins_with a b)) e
          ∙ ap (λ (o : Option DRule). option_map_or (λ r. leads r s) o false && begins_with a b) (sym own))
          (cons_decides led (begins_with a b) (fails_fixed A (n, s)) (filter_map (fails_fixed A) (enumerate_from (n + 1) b))
          (Decides-at led (not (is_fixed s) || led) (ap (λ (x : Bool). not x || led) (sym e))
          (unless_decides (not (is_fixed s) || led) (failing.Fixed (option_and_then (place_of_key A) s.key) n))) (rest e))

-- ---- the rules of keys

counts_decide : (b : List DRule) (p : Placed) → Decides (common_rule b p.1) (fails_counts b p ≡ None)
counts_decide b p = by p.1.key
  where
    by : (o : Option Key) → Decides (option_map_or (λ key. option_map_or (is_within p.1) (rule_of b key) true) o true)
        (option_and_then (λ key. option_and_then (λ q. unless (is_within p.1 q.1) (failing.Counts p.0 q.0)) (placed_rule b key)) o ≡ None)
    by None = nothing_fails
    by (Some key) =
        found_decides (lists_key key) (is_within p.1) true (λ (o : Option Placed). option_and_then (λ q. unless (is_within p.1 q.1) (failing.Counts p.0 q.0)) o ≡ None) nothing_fails
        (λ q. unless_decides (is_within p.1 q.1) (failing.Counts p.0 q.0)) b

room_for : (may : Bool) (max : Option ℕ) (o : Option DRule) → (not may || option_map_or (λ w. is_max_within w.max max) o true) ≡ option_map_or (λ w. not may || is_max_within w.max max) o true
room_for true max None = refl
room_for false max None = refl
room_for may max (Some w) = refl

crowded_decides : (may : Bool) (a : List DRule) (p : Placed) → Decides (not may || has_room (wildcard_of a) p.1.max) (fails_crowded may (placed_wildcard a) p ≡ None)
crowded_decides may a p =
    Decides-at (not may || has_room (wildcard_of a) p.1.max) (option_map_or (λ w. not may || is_max_within w.max p.1.max) (wildcard_of a) true) (room_for may p.1.max (wildcard_of a))
    (found_decides is_wildcard (λ w. not may || is_max_within w.max p.1.max) true (λ (o : Option Placed). fails_crowded may o p ≡ None) nothing_fails
    (λ q. unless_decides (not may || is_max_within q.1.max p.1.max) (failing.Crowded q.0 p.0)) a)

own_by : (listed zero_min room : Bool) (o : Option Failing) (f : Failing) → Decides room (o ≡ None) → Decides (listed || (zero_min && room)) ((if listed then None else if zero_min then o else Some f) ≡ None)
own_by true z room o f d = (λ e. refl, λ h. refl)
own_by false true room o f d = d
own_by false false room o f d = (λ e. absurd (let g : false ≡ true = e in cc), λ h. absurd (none-some f (sym h)))

own_decides : (c : Compared) (a : List DRule) (p : Placed) → Decides (own_rule (may_come c.sides) a (wildcard_of a) p.1) (fails_own c.sides a (placed_wildcard a) p ≡ None)
own_decides c a p = by p.1.key
  where
    by : (o : Option Key) → Decides (option_map_or (λ key. is_listed a key || ((p.1.min == 0) && (not (may_come c.sides key) || has_room (wildcard_of a) p.1.max))) o true)
        (option_and_then (fails_own_key c.sides a (placed_wildcard a) p) o ≡ None)
    by None = nothing_fails
    by (Some key) = own_by (is_listed a key) (p.1.min == 0) (not (may_come c.sides key) || has_room (wildcard_of a) p.1.max)
        (fails_crowded (may_come c.sides key) (placed_wildcard a) p) (failing.Required p.0) (crowded_decides (may_come c.sides key) a p)

-- ---- wildcards

wild_or : (has : Bool) (o : Option DRule) → (not (is_some o) || has) ≡ option_map_or (λ _. has) o true
wild_or has None = refl
wild_or has (Some w) = refl

wildcard_decides : (a b : List DRule) → Decides (not (has_wildcard a) || has_wildcard b)
    (option_to_list (option_and_then (λ v. unless (has_wildcard b) (failing.NoWildcard v.0)) (placed_wildcard a)) ≡ [])
wildcard_decides a b =
    list_decides (not (has_wildcard a) || has_wildcard b) (option_and_then (λ v. unless (has_wildcard b) (failing.NoWildcard v.0)) (placed_wildcard a))
    (Decides-at (not (has_wildcard a) || has_wildcard b) (option_map_or (λ _. has_wildcard b) (wildcard_of a) true)
    (ap (λ (x : Bool). not x || has_wildcard b) (sym (find-is_some is_wildcard a)) ∙ wild_or (has_wildcard b) (wildcard_of a))
    (found_decides is_wildcard (λ _. has_wildcard b) true (λ (o : Option Placed). option_and_then (λ v. unless (has_wildcard b) (failing.NoWildcard v.0)) o ≡ None) nothing_fails
    (λ v. unless_decides (has_wildcard b) (failing.NoWildcard v.0)) a))

most_decides : (a b : List DRule) (place : ℕ) (max : Option ℕ) → Decides (bounded_wildcard a b max) (fails_most a b place max ≡ [])
most_decides a b place None = none_fail
most_decides a b place (Some m) =
    let bound = option_and_then (λ (v : Placed). unless (is_max_within v.1.max (Some m)) (failing.WildcardMost v.0 place)) (placed_wildcard a) in
    append_decides (list_all (listed_rule b) a) (has_room (wildcard_of a) (Some m)) (among (λ p. unless (listed_rule b p.1) (failing.CountsAsOther p.0 place)) a) (option_to_list bound)
    (numbered_decides (λ (p : Placed). unless (listed_rule b p.1) (failing.CountsAsOther p.0 place)) (listed_rule b) (λ p. unless_decides (listed_rule b p.1) (failing.CountsAsOther p.0 place)) 0 a)
    (list_decides (has_room (wildcard_of a) (Some m)) bound
    (found_decides is_wildcard (λ v. is_max_within v.max (Some m)) true
    (λ (o : Option Placed). option_and_then (λ v. unless (is_max_within v.1.max (Some m)) (failing.WildcardMost v.0 place)) o ≡ None) nothing_fails
    (λ v. unless_decides (is_max_within v.1.max (Some m)) (failing.WildcardMost v.0 place)) a))

least_decides : (a b : List DRule) (w : Placed) → Decides (required_wildcard a b w.1.min) (fails_least a b w ≡ [])
least_decides a b w =
    let few = option_map_or (λ (v : DRule). nat_le w.1.min v.min) (wildcard_of a) false in
    let fails = λ (p : Placed). unless (of_key (is_listed a) p.1) (failing.NotCounted p.0 w.0) in
    or_decides (w.1.min == 0) (few && list_all (of_key (is_listed a)) b) (option_to_list (fails_few (placed_wildcard a) w) ++ among fails b)
    (append_decides few (list_all (of_key (is_listed a)) b) (option_to_list (fails_few (placed_wildcard a) w)) (among fails b)
    (list_decides few (fails_few (placed_wildcard a) w)
    (found_decides is_wildcard (λ v. nat_le w.1.min v.min) false (λ (o : Option Placed). fails_few o w ≡ None)
    (λ e. absurd (let f : false ≡ true = e in cc), λ h. absurd (none-some (failing.WildcardLeast None w.0) (sym h)))
    (λ v. unless_decides (nat_le w.1.min v.1.min) (failing.WildcardLeast (Some v.0) w.0)) a))
    (numbered_decides fails (of_key (is_listed a)) (λ p. unless_decides (of_key (is_listed a) p.1) (failing.NotCounted p.0 w.0)) 0 b))

let_in_decides : (c : Compared) (a : List DRule) (v : Placed)
    → Decides (not (is_above_zero v.1.max) || (strangers_fit c.sides && list_all (is_listed a) (uncovered_keys c))) (fails_let_in c a v ≡ [])
let_in_decides c a v =
    let known = filter_map (λ (key : Key). unless (is_listed a key) (failing.LetIn v.0 key)) (uncovered_keys c) in
    let new = filter_map (λ (e : DictEntry). unless (stranger_fits c.sides.first e) (failing.Stranger v.0 e.key)) c.sides.second.entries in
    only_decides (is_above_zero v.1.max) (strangers_fit c.sides && list_all (is_listed a) (uncovered_keys c)) (fails_strangers c.sides v.0 ++ known)
    (append_decides (strangers_fit c.sides) (list_all (is_listed a) (uncovered_keys c)) (fails_strangers c.sides v.0) known
    (only_decides (is_kept c.sides.unknown) (list_all (stranger_fits c.sides.first) c.sides.second.entries) new
    (each_decides (λ (e : DictEntry). unless (stranger_fits c.sides.first e) (failing.Stranger v.0 e.key)) (stranger_fits c.sides.first)
    (λ e. unless_decides (stranger_fits c.sides.first e) (failing.Stranger v.0 e.key)) c.sides.second.entries))
    (each_decides (λ (key : Key). unless (is_listed a key) (failing.LetIn v.0 key)) (is_listed a) (λ key. unless_decides (is_listed a key) (failing.LetIn v.0 key)) (uncovered_keys c)))

-- ---- the nine tests

module _ (c : Compared) (a b : List DRule) where
  rule_decides : (test : DRule → Bool) (recorded : ℕ → Failing) (rules : List DRule) → Decides (list_all test rules) (among (λ p. unless (test p.1) (recorded p.0)) rules ≡ [])
  rule_decides test recorded rules = numbered_decides (λ (p : Placed). unless (test p.1) (recorded p.0)) test (λ p. unless_decides (test p.1) (recorded p.0)) 0 rules

  from_start : (k : ℕ) → slice_get a (0 + k) ≡ slice_get a k
  from_start k = let same : 0 + k ≡ k = omega arith in ap (slice_get a) same

  -- no rule fails exactly where the test is passed
  pub none_decides : AreRules b → (t : Test) → Decides (is_passed c t a b) (rule_failings c t a b ≡ [])
  none_decides are N1 = leading_decides a 0 a b from_start (fixed_first b are)
  none_decides are N2 = numbered_decides (fails_counts b) (common_rule b) (counts_decide b) 0 a
  none_decides are N3 = rule_decides (let_in_rule b (has_wildcard b)) (λ i. failing.Unlisted i) a
  none_decides are N4 = rule_decides (covered_rule (is_covered c)) (λ i. failing.Uncovered i) a
  none_decides are N5 = numbered_decides (fails_own c.sides a (placed_wildcard a)) (own_rule (may_come c.sides) a (wildcard_of a)) (own_decides c a) 0 b
  none_decides are N6 = wildcard_decides a b
  none_decides are N7 = found_decides is_wildcard (λ w. bounded_wildcard a b w.max) true (λ (o : Option Placed). option_map_or (λ w. fails_most a b w.0 w.1.max) o [] ≡ []) none_fail
      (λ w. most_decides a b w.0 w.1.max) b
  none_decides are N8 = found_decides is_wildcard (λ w. required_wildcard a b w.min) true (λ (o : Option Placed). option_map_or (fails_least a b) o [] ≡ []) none_fail (least_decides a b) b
  none_decides are N9 = found_decides is_wildcard (λ v. not (is_above_zero v.max) || (strangers_fit c.sides && list_all (is_listed a) (uncovered_keys c))) true
      (λ (o : Option Placed). option_map_or (fails_let_in c a) o [] ≡ []) none_fail (let_in_decides c a) a
  none_decides are N10 = none_fail
