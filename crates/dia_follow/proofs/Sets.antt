-- The sets of numbers by which requests are found.
use Rattle.std.proofs.Common.{◌≡◌, ℕ, ◌<◌, ◌≤◌, ◌==◌, ◌&&◌, ◌↔◌, Bool, true, false, cond, List, [], ◌∷◌, ◌++◌, length, Option, Some, None, IsSome, option_map, slice_get, nat_cmp, is_gt, Ordering, Less, Equal, Greater, refl, sym, ap, subst, ◌∙◌, arith, le_of_suc-le-suc}
use Rattle.std.proofs.lemmas.Bool.{both_ways, eqb-true, false≢true}
use Rattle.std.proofs.lemmas.Bool.Decides.{nat_tests}
use Rattle.std.proofs.lemmas.List.Elements.{All-nil}
use Rattle.std.proofs.lemmas.Map.Keys.{le_from_not_gt}
use Rattle.std.proofs.lemmas.Map.Views.{All-map-remove_entry}
use Rattle.std.specs.BTreeMap.{is_at}
use Rattle.std.specs.BTreeMap.Range.{IsInRange}
use Rattle.std.specs.BTreeSet.{BTreeSet, contains, IsKeyRangeOf, IsLowerBound, Updates}
use Rattle.std.specs.declared.ops.Bound.TheVariants.{Included}
use Rattle.std.specs.List.{list_any}
use Rattle.std.specs.Option.{option_map_or}
use Rattle.std.specs.Ordering.{ordering_then}
use Rattle.dia_follow.specs.declared.request.Request.{Request}
use Rattle.dia_follow.specs.declared.waiting.numbers.Numbers.{Numbers}
use Rattle.dia_follow.specs.Numbered.{AreBelow, AreListed, Rises, first_number, numbered, passes, without_number, pair_cmp, triple_cmp}
use Rattle.dia_follow.specs.Waits.{has_hop, has_ids, is_dwr}
use Rattle.dia_follow.proofs.Numbered.{first_is, first_is_none, is_at-eqb, is_at-pair, is_at-triple, number_left, number_pushed, passes_below, below_pushed, rises_less, rises_none, rises_pushed}

-- ---- a test after a change of a set

pub test_added : (here at c p now : Bool) → c ≡ p → (at ≡ true → p ≡ false) → now ≡ cond at here p → cond (here && at) true c ≡ now
test_added true true c p now same fresh is = sym is
test_added true false c p now same fresh is = same ∙ sym is
test_added false true c p now same fresh is = same ∙ fresh refl ∙ sym is
test_added false false c p now same fresh is = same ∙ sym is

pub test_taken : (here at c p now : Bool) → c ≡ p → (at ≡ true → p ≡ here) → now ≡ cond at false p → cond (here && at) false c ≡ now
test_taken true true c p now same was is = sym is
test_taken true false c p now same was is = same ∙ sym is
test_taken false true c p now same was is = same ∙ was refl ∙ sym is
test_taken false false c p now same was is = same ∙ sym is

-- ---- the part of a set between two bounds

gt_first : (o p : Ordering) → is_gt (ordering_then o p) ≡ false → is_gt o ≡ false
gt_first Less p h = refl
gt_first Equal p h = refl
gt_first Greater p h = h

gt_second : (o p : Ordering) → o ≡ Equal → is_gt (ordering_then o p) ≡ false → is_gt p ≡ false
gt_second Less p is h = absurd (less_not is)
  where
    less_not : Less ≡ Equal → ⊥
    less_not e = cc
gt_second Equal p is h = h
gt_second Greater p is h = absurd (greater_not is)
  where
    greater_not : Greater ≡ Equal → ⊥
    greater_not e = cc

gt_both : (o p : Ordering) → o ≡ Equal → is_gt p ≡ false → is_gt (ordering_then o p) ≡ false
gt_both o p is h = subst (λ q. is_gt (ordering_then q p) ≡ false) (sym is) h

equal_both : (o p : Ordering) → o ≡ Equal → p ≡ Equal → ordering_then o p ≡ Equal
equal_both o p is also = subst (λ q. ordering_then q p ≡ Equal) (sym is) also

equal_itself : (m : ℕ) → nat_cmp m m ≡ Equal
equal_itself m = grind (arith, nat_tests)

not_gt : (m n : ℕ) → m ≤ n → is_gt (nat_cmp m n) ≡ false
not_gt m n h = grind (arith, nat_tests)

between : (a b c : ℕ) → is_gt (nat_cmp a b) ≡ false → is_gt (nat_cmp b c) ≡ false → a ≡ c → b ≡ a
between a b c h k is = let l = le_from_not_gt a b h in let m = le_from_not_gt b c k in omega arith

equal_by : (m n : ℕ) → m ≡ n → nat_cmp m n ≡ Equal
equal_by m n is = grind (arith, nat_tests)

pair_inside : (h b m : ℕ) → m ≤ b → IsInRange pair_cmp (Included (h, 0)) (Included (h, b)) (h, m)
pair_inside h b m le = (gt_both _ _ (equal_itself h) (not_gt 0 m (omega arith)), gt_both _ _ (equal_itself h) (not_gt m b le))

pair_prefix : (h b : ℕ) (k : ℕ × ℕ) → IsInRange pair_cmp (Included (h, 0)) (Included (h, b)) k → k.0 ≡ h
pair_prefix h b k inside = between h k.0 h (gt_first _ _ inside.0) (gt_first _ _ inside.1) refl

triple_inside : (h e b m : ℕ) → m ≤ b → IsInRange triple_cmp (Included (h, e, 0)) (Included (h, e, b)) (h, e, m)
triple_inside h e b m le = (
  gt_both _ _ (equal_both _ _ (equal_itself h) (equal_itself e)) (not_gt 0 m (omega arith)),
  gt_both _ _ (equal_both _ _ (equal_itself h) (equal_itself e)) (not_gt m b le),
)

triple_prefix : (h e b : ℕ) (k : ℕ × ℕ × ℕ) → IsInRange triple_cmp (Included (h, e, 0)) (Included (h, e, b)) k → (k.0 ≡ h) × (k.1 ≡ e)
triple_prefix h e b k inside =
    let from = gt_first (ordering_then (nat_cmp h k.0) (nat_cmp e k.1)) (nat_cmp 0 k.2) inside.0 in
    let up_to = gt_first (ordering_then (nat_cmp k.0 h) (nat_cmp k.1 e)) (nat_cmp k.2 b) inside.1 in
    let first : k.0 ≡ h = between h k.0 h (gt_first (nat_cmp h k.0) (nat_cmp e k.1) from) (gt_first (nat_cmp k.0 h) (nat_cmp k.1 e) up_to) refl in
    (first, between e k.1 e (gt_second _ _ (equal_by h k.0 (sym first)) from) (gt_second _ _ (equal_by k.0 h first) up_to) refl)

module _ {X : Type 0} (test : X → Bool) (es : List (ℕ × X)) (b : ℕ) (rise : Rises es) (fit : (m : ℕ) → passes test es m ≡ true → m ≤ b) where
  pub first_in_pairs : (s : BTreeSet (ℕ × ℕ)) (h : ℕ) → ((m : ℕ) → contains pair_cmp s (h, m) ≡ passes test es m) → (r : List (ℕ × ℕ)) → IsKeyRangeOf pair_cmp (Included (h, 0)) (Included (h, b)) s r → option_map (λ (k : ℕ × ℕ). k.1) (slice_get r 0) ≡ first_number test es
  first_in_pairs s h same [] range = sym (first_is_none test es rise (λ m p. both_ways (contains pair_cmp s (h, m)) (range.5 refl (h, m) (pair_inside h b m (fit m p))) (same m ∙ p)))
  first_in_pairs s h same (k ∷ ks) range =
      let prefix : k.0 ≡ h = pair_prefix h b k range.1.0 in
      sym (first_is test es k.1 rise
      (sym (same k.1) ∙ subst (λ (a : ℕ). contains pair_cmp s (a, k.1) ≡ true) prefix range.1.1)
      (λ m p. le_from_not_gt k.1 m (gt_second _ _ (equal_by k.0 h prefix) (range.2 (h, m) (pair_inside h b m (fit m p)) (same m ∙ p)))))

  pub first_in_triples : (s : BTreeSet (ℕ × ℕ × ℕ)) (h e : ℕ) → ((m : ℕ) → contains triple_cmp s (h, e, m) ≡ passes test es m) → (r : List (ℕ × ℕ × ℕ)) → IsKeyRangeOf triple_cmp (Included (h, e, 0)) (Included (h, e, b)) s r → option_map (λ (k : ℕ × ℕ × ℕ). k.2) (slice_get r 0) ≡ first_number test es
  first_in_triples s h e same [] range = sym (first_is_none test es rise (λ m p. both_ways (contains triple_cmp s (h, e, m)) (range.5 refl (h, e, m) (triple_inside h e b m (fit m p))) (same m ∙ p)))
  first_in_triples s h e same (k ∷ ks) range =
      let prefix = triple_prefix h e b k range.1.0 in
      sym (first_is test es k.2 rise
      (sym (same k.2) ∙ subst (λ (a : ℕ). contains triple_cmp s (a, e, k.2) ≡ true) prefix.0 (subst (λ (a : ℕ). contains triple_cmp s (k.0, a, k.2) ≡ true) prefix.1 range.1.1))
      (λ m p. le_from_not_gt k.2 m (gt_second _ _ (equal_both _ _ (equal_by k.0 h prefix.0) (equal_by k.1 e prefix.1)) (range.2 (h, e, m) (triple_inside h e b m (fit m p)) (same m ∙ p)))))

  -- the least of a set of numbers
  pub first_in_numbers : (s : BTreeSet ℕ) → ((m : ℕ) → contains nat_cmp s m ≡ passes test es m) → (n : ℕ) → contains nat_cmp s n ≡ true → IsLowerBound nat_cmp s n → Some n ≡ first_number test es
  first_in_numbers s same n in' least = sym (first_is test es n rise (sym (same n) ∙ in') (λ m p. le_from_not_gt n m (least m (same m ∙ p))))

  pub none_in_numbers : (s : BTreeSet ℕ) → ((m : ℕ) → contains nat_cmp s m ≡ passes test es m) → s.keys ≡ [] → None ≡ first_number test es
  none_in_numbers s same empty = sym (first_is_none test es rise (λ m p. both_ways (contains nat_cmp s m) (ap (λ ks. list_any (is_at (nat_cmp m)) ks) empty) (same m ∙ p)))

-- ---- the sets of a table

fits : {X : Type 0} (test : X → Bool) (es : List (ℕ × X)) → AreBelow es 18446744073709551616 → (m : ℕ) → passes test es m ≡ true → m ≤ 18446744073709551615
fits test es below m p = le_of_suc-le-suc (passes_below test es 18446744073709551616 m below p)

pub with_hop_listed : (sets : Numbers) (es : List (ℕ × Request)) (hop : ℕ) (lo hi : ℕ × ℕ) (r : List (ℕ × ℕ)) → AreListed sets es → lo ≡ (hop, 0) → hi ≡ (hop, 18446744073709551615) → IsKeyRangeOf pair_cmp (Included lo) (Included hi) sets.by_hop r → option_map (λ (k : ℕ × ℕ). k.1) (slice_get r 0) ≡ first_number (has_hop hop) es
with_hop_listed sets es hop lo hi r l is_lo is_hi range =
    first_in_pairs (has_hop hop) es 18446744073709551615 l.rise (fits (has_hop hop) es l.fit) sets.by_hop hop (l.by_hop hop) r
    (subst (λ (k : ℕ × ℕ). IsKeyRangeOf pair_cmp (Included (hop, 0)) (Included k) sets.by_hop r) is_hi
    (subst (λ (k : ℕ × ℕ). IsKeyRangeOf pair_cmp (Included k) (Included hi) sets.by_hop r) is_lo range))

pub with_ids_listed : (sets : Numbers) (es : List (ℕ × Request)) (hop e2e : ℕ) (lo hi : ℕ × ℕ × ℕ) (r : List (ℕ × ℕ × ℕ)) → AreListed sets es → lo ≡ (hop, e2e, 0) → hi ≡ (hop, e2e, 18446744073709551615) → IsKeyRangeOf triple_cmp (Included lo) (Included hi) sets.by_ids r → option_map (λ (k : ℕ × ℕ × ℕ). k.2) (slice_get r 0) ≡ first_number (has_ids hop e2e) es
with_ids_listed sets es hop e2e lo hi r l is_lo is_hi range =
    first_in_triples (has_ids hop e2e) es 18446744073709551615 l.rise (fits (has_ids hop e2e) es l.fit) sets.by_ids hop e2e (l.by_ids hop e2e) r
    (subst (λ (k : ℕ × ℕ × ℕ). IsKeyRangeOf triple_cmp (Included (hop, e2e, 0)) (Included k) sets.by_ids r) is_hi
    (subst (λ (k : ℕ × ℕ × ℕ). IsKeyRangeOf triple_cmp (Included k) (Included hi) sets.by_ids r) is_lo range))

pub watchdog_listed : (sets : Numbers) (es : List (ℕ × Request)) (n : ℕ) → AreListed sets es → contains nat_cmp sets.watchdogs n ≡ true → IsLowerBound nat_cmp sets.watchdogs n → Some n ≡ first_number is_dwr es
watchdog_listed sets es n l member least = first_in_numbers is_dwr es 18446744073709551615 l.rise (fits is_dwr es l.fit) sets.watchdogs l.watchdogs n member least

no_key : (ks : List ℕ) → (0 < length ks → ⊥) → ks ≡ []
no_key [] none = refl
no_key (k ∷ ks) none = absurd (none (omega arith))

pub watchdog_not_listed : (sets : Numbers) (es : List (ℕ × Request)) → AreListed sets es → (IsSome {T = ℕ} None ↔ (0 < length sets.watchdogs.keys)) → None ≡ first_number is_dwr es
watchdog_not_listed sets es l variant =
    none_in_numbers is_dwr es 18446744073709551615 l.rise (fits is_dwr es l.fit) sets.watchdogs l.watchdogs (no_key sets.watchdogs.keys (λ h. false≢true (variant.1 h)))

pub none_listed : (sets : Numbers) → sets.by_hop.keys ≡ [] → sets.by_ids.keys ≡ [] → sets.watchdogs.keys ≡ [] → AreListed sets []
none_listed sets hops ids dwrs = record {
  rise = rises_none Request;
  fit = All-nil (λ k. k < 18446744073709551616);
  by_hop = λ hop n. ap (λ ks. list_any (is_at (pair_cmp (hop, n))) ks) hops;
  by_ids = λ hop e2e n. ap (λ ks. list_any (is_at (triple_cmp (hop, e2e, n))) ks) ids;
  watchdogs = λ n. ap (λ ks. list_any (is_at (nat_cmp n)) ks) dwrs;
}

-- ---- one more request

map_cond : {X : Type 0} (test : X → Bool) (b : Bool) (x : X) (o : Option X) → option_map_or test (cond b (Some x) o) false ≡ cond b (test x) (option_map_or test o false)
map_cond test true x o = refl
map_cond test false x o = refl

map_cond_none : {X : Type 0} (test : X → Bool) (b : Bool) (o : Option X) → option_map_or test (cond b None o) false ≡ cond b false (option_map_or test o false)
map_cond_none test true o = refl
map_cond_none test false o = refl

passes_pushed : {X : Type 0} (test : X → Bool) (es : List (ℕ × X)) (n m : ℕ) (x : X) → AreBelow es n → passes test (es ++ (n, x) ∷ []) m ≡ cond (n == m) (test x) (passes test es m)
passes_pushed test es n m x below = ap (λ o. option_map_or test o false) (number_pushed es n m x below) ∙ map_cond test (n == m) x (numbered es m)

passes_left : {X : Type 0} (test : X → Bool) (es : List (ℕ × X)) (n m : ℕ) → Rises es → passes test (without_number es n) m ≡ cond (n == m) false (passes test es m)
passes_left test es n m r = ap (λ o. option_map_or test o false) (number_left es n m r) ∙ map_cond_none test (n == m) (numbered es m)

new_number : {X : Type 0} (test : X → Bool) (es : List (ℕ × X)) (n m : ℕ) → AreBelow es n → (n == m) ≡ true → passes test es m ≡ false
new_number test es n m below same = by_test (passes test es m) refl
  where
    by_test : (b : Bool) → b ≡ passes test es m → b ≡ false
    by_test false is = refl
    by_test true is =
        let less : m < n = passes_below test es n m below (sym is) in
        let equal : n ≡ m = eqb-true n m same in
        absurd (omega arith)

old_number : {X : Type 0} (test : X → Bool) (es : List (ℕ × X)) (n m : ℕ) (x : X) → numbered es n ≡ Some x → (n == m) ≡ true → passes test es m ≡ test x
old_number test es n m x at same = ap (λ k. passes test es k) (sym (eqb-true n m same)) ∙ ap (λ o. option_map_or test o false) at

-- a number among the DWRs, where the request is one
pub watchdog_added : (s t : BTreeSet ℕ) (n : ℕ) (b dwr : Bool) → dwr ≡ true → Updates nat_cmp s t n b → (m : ℕ) → contains nat_cmp t m ≡ cond (dwr && (n == m)) b (contains nat_cmp s m)
watchdog_added s t n b dwr is up m = up.0 m ∙ ap (λ a. cond a b (contains nat_cmp s m)) (is_at-eqb n m ∙ ap (λ d. d && (n == m)) (sym is))

pub watchdog_same : (s : BTreeSet ℕ) (n : ℕ) (b dwr : Bool) → dwr ≡ false → (m : ℕ) → contains nat_cmp s m ≡ cond (dwr && (n == m)) b (contains nat_cmp s m)
watchdog_same s n b dwr is m = ap (λ d. cond (d && (n == m)) b (contains nat_cmp s m)) (sym is)

pub listed_more : (old new : Numbers) (es : List (ℕ × Request)) (n : ℕ) (x : Request)
    → AreListed old es → AreBelow es n → n < 18446744073709551616
    → Updates pair_cmp old.by_hop new.by_hop (x.hop, n) true
    → Updates triple_cmp old.by_ids new.by_ids (x.hop, x.e2e, n) true
    → ((m : ℕ) → contains nat_cmp new.watchdogs m ≡ cond (is_dwr x && (n == m)) true (contains nat_cmp old.watchdogs m))
    → AreListed new (es ++ (n, x) ∷ [])
listed_more old new es n x l below small hops ids dwrs = record {
  rise = rises_pushed es n x l.rise below;
  fit = below_pushed es n 18446744073709551616 x l.fit small;
  by_hop = λ hop m. hops.0 (hop, m)
      ∙ ap (λ a. cond a true (contains pair_cmp old.by_hop (hop, m))) (is_at-pair x.hop n hop m)
      ∙ test_added (x.hop == hop) (n == m) _ _ _ (l.by_hop hop m) (new_number (has_hop hop) es n m below) (passes_pushed (has_hop hop) es n m x below);
  by_ids = λ hop e2e m. ids.0 (hop, e2e, m)
      ∙ ap (λ a. cond a true (contains triple_cmp old.by_ids (hop, e2e, m))) (is_at-triple x.hop x.e2e n hop e2e m)
      ∙ test_added (has_ids hop e2e x) (n == m) _ _ _ (l.by_ids hop e2e m) (new_number (has_ids hop e2e) es n m below) (passes_pushed (has_ids hop e2e) es n m x below);
  watchdogs = λ m. dwrs m ∙ test_added (is_dwr x) (n == m) _ _ _ (l.watchdogs m) (new_number is_dwr es n m below) (passes_pushed is_dwr es n m x below);
}

-- ---- one request less

pub listed_less : (old new : Numbers) (es : List (ℕ × Request)) (n : ℕ) (x : Request)
    → AreListed old es → numbered es n ≡ Some x
    → Updates pair_cmp old.by_hop new.by_hop (x.hop, n) false
    → Updates triple_cmp old.by_ids new.by_ids (x.hop, x.e2e, n) false
    → ((m : ℕ) → contains nat_cmp new.watchdogs m ≡ cond (is_dwr x && (n == m)) false (contains nat_cmp old.watchdogs m))
    → AreListed new (without_number es n)
listed_less old new es n x l at hops ids dwrs = record {
  rise = rises_less es n l.rise;
  fit = All-map-remove_entry (is_at (nat_cmp n)) (λ (e : ℕ × Request). e.0) (λ k. k < 18446744073709551616) es l.fit;
  by_hop = λ hop m. hops.0 (hop, m)
      ∙ ap (λ a. cond a false (contains pair_cmp old.by_hop (hop, m))) (is_at-pair x.hop n hop m)
      ∙ test_taken (x.hop == hop) (n == m) _ _ _ (l.by_hop hop m) (old_number (has_hop hop) es n m x at) (passes_left (has_hop hop) es n m l.rise);
  by_ids = λ hop e2e m. ids.0 (hop, e2e, m)
      ∙ ap (λ a. cond a false (contains triple_cmp old.by_ids (hop, e2e, m))) (is_at-triple x.hop x.e2e n hop e2e m)
      ∙ test_taken (has_ids hop e2e x) (n == m) _ _ _ (l.by_ids hop e2e m) (old_number (has_ids hop e2e) es n m x at) (passes_left (has_ids hop e2e) es n m l.rise);
  watchdogs = λ m. dwrs m ∙ test_taken (is_dwr x) (n == m) _ _ _ (l.watchdogs m) (old_number is_dwr es n m x at) (passes_left is_dwr es n m l.rise);
}
