-- Requests by numbers that rise: their places, and the sets of numbers by which they are found.
use Rattle.std.proofs.Common.{◌≡◌, ℕ, zero, suc, ◌+◌, ◌<◌, ◌≤◌, ◌==◌, ◌&&◌, Bool, true, false, cond, nat_lt, List, [], ◌∷◌, ◌++◌, length, drop, Option, Some, None, Bor, is_some, option_copied, option_map, slice_get, position, find, remove, nat_cmp, is_eq, Ordering, Less, Equal, Greater, refl, sym, ap, subst, ◌∙◌, append_assoc, arith, length-append, ⊎_elim}
use Rattle.std.proofs.lemmas.Bool.{cases_Bool, cases_eq, eq-eqb, ne_eqb, both_ways, lt-ltb}
use Rattle.std.proofs.lemmas.Bool.Decides.{nat_tests}
use Rattle.std.proofs.lemmas.List.Elements.{All-cons, All-head, All-nil, All-tail, All-weaker}
use Rattle.std.specs.BTreeMap.{is_at, insert_entry}
use Rattle.std.specs.List.{AllByRecursion, position_or_len}
use Rattle.std.specs.List.Sorted.{IsStrictlySortedBy}
use Rattle.std.specs.Map.{keys_of, values_of}
use Rattle.std.specs.Option.{option_map_or}
use Rattle.std.specs.Ordering.{ordering_then}
use Rattle.dia_follow.specs.Places.{at_place, first, without_place}
use Rattle.dia_follow.specs.declared.request.Request.{Request}
use Rattle.dia_follow.specs.Waits.{answered_place, has_hop, has_ids, line_of, or_else}
use Rattle.dia_follow.specs.Numbered.{AreBelow, Rises, answered_number, first_number, numbered, passes, without_number, pair_cmp, triple_cmp}

-- ---- comparisons of numbers

pub is_at-eqb : (m n : ℕ) → is_at (nat_cmp m) n ≡ (m == n)
is_at-eqb m n = grind (arith, nat_tests)

pub less-lt : (m n : ℕ) → nat_cmp m n ≡ Less → m < n
less-lt m n h = grind (arith, nat_tests)

pub lt-less : (m n : ℕ) → m < n → nat_cmp m n ≡ Less
lt-less m n h = grind (arith, nat_tests)

greater : (m n : ℕ) → m < n → nat_cmp n m ≡ Greater
greater m n h = grind (arith, nat_tests)

no_some : {A : Type 0} (a : A) → None ≡ Some a → ⊥
no_some a e = cc

some_same : {A : Type 0} (a b : A) → Some a ≡ Some b → a ≡ b
some_same a b e = cc

is_eq-then : (o p : Ordering) → is_eq (ordering_then o p) ≡ (is_eq o && is_eq p)
is_eq-then Less p = refl
is_eq-then Equal p = refl
is_eq-then Greater p = refl

pub is_at-pair : (a m b n : ℕ) → is_at (pair_cmp (a, m)) (b, n) ≡ ((a == b) && (m == n))
is_at-pair a m b n = is_eq-then (nat_cmp a b) (nat_cmp m n) ∙ ap (λ x. x && is_eq (nat_cmp m n)) (is_at-eqb a b) ∙ ap (λ x. (a == b) && x) (is_at-eqb m n)

pub is_at-triple : (a b m c d n : ℕ) → is_at (triple_cmp (a, b, m)) (c, d, n) ≡ (((a == c) && (b == d)) && (m == n))
is_at-triple a b m c d n =
    is_eq-then (ordering_then (nat_cmp a c) (nat_cmp b d)) (nat_cmp m n)
    ∙ ap (λ x. x && is_eq (nat_cmp m n)) (is_at-pair a b c d)
    ∙ ap (λ x. ((a == c) && (b == d)) && x) (is_at-eqb m n)

-- ---- numbers that rise

pub rises_none : (X : Type 0) → Rises {X = X} []
unfolding IsStrictlySortedBy
rises_none X = tt

module _ {X : Type 0} where
  pub above_first : (e : ℕ × X) (es : List (ℕ × X)) → Rises (e ∷ es) → AllByRecursion (λ k. nat_cmp e.0 k ≡ Less) (keys_of es)
  unfolding IsStrictlySortedBy
  above_first e es r = r.0

  pub rest_rises : (e : ℕ × X) (es : List (ℕ × X)) → Rises (e ∷ es) → Rises es
  unfolding IsStrictlySortedBy
  rest_rises e es r = r.1

  rises_cons : (e : ℕ × X) (es : List (ℕ × X)) → AllByRecursion (λ k. nat_cmp e.0 k ≡ Less) (keys_of es) → Rises es → Rises (e ∷ es)
  unfolding IsStrictlySortedBy
  rises_cons e es a r = (a, r)

  rises_one : (e : ℕ × X) → Rises (e ∷ [])
  unfolding IsStrictlySortedBy
  rises_one e = (tt, tt)

  -- a number is found exactly under its key
  found_here : (e : ℕ × X) (es : List (ℕ × X)) (n : ℕ) → n ≡ e.0 → numbered (e ∷ es) n ≡ Some e.1
  found_here e es n is = ap (λ b. cond b (Some e.1) (numbered es n)) (is_at-eqb n e.0 ∙ eq-eqb n e.0 is)

  found_later : (e : ℕ × X) (es : List (ℕ × X)) (n : ℕ) → (n ≡ e.0 → ⊥) → numbered (e ∷ es) n ≡ numbered es n
  found_later e es n not = ap (λ b. cond b (Some e.1) (numbered es n)) (is_at-eqb n e.0 ∙ ne_eqb n e.0 not)

  kept_later : (e : ℕ × X) (es : List (ℕ × X)) (n : ℕ) → (n ≡ e.0 → ⊥) → without_number (e ∷ es) n ≡ e ∷ without_number es n
  kept_later e es n not = ap (λ b. cond b es (e ∷ without_number es n)) (is_at-eqb n e.0 ∙ ne_eqb n e.0 not)

  pub dropped_here : (e : ℕ × X) (es : List (ℕ × X)) (n : ℕ) → n ≡ e.0 → without_number (e ∷ es) n ≡ es
  dropped_here e es n is = ap (λ b. cond b es (e ∷ without_number es n)) (is_at-eqb n e.0 ∙ eq-eqb n e.0 is)

  -- what passes among those with greater numbers has one of these numbers
  passes_above : (test : X → Bool) (m n : ℕ) (es : List (ℕ × X)) → AllByRecursion (λ k. nat_cmp m k ≡ Less) (keys_of es) → passes test es n ≡ true → m < n
  passes_above test m n [] a p = absurd (both_ways false refl p)
  passes_above test m n (e ∷ es) a p = ⊎_elim
      (λ (is : n ≡ e.0). subst (λ x. m < x) (sym is) (less-lt m e.0 a.0))
      (λ (not : n ≡ e.0 → ⊥). passes_above test m n es a.1 (sym (ap (λ o. option_map_or test o false) (found_later e es n not)) ∙ p))
      (cases_eq n e.0)

  passes_rest : (test : X → Bool) (e : ℕ × X) (es : List (ℕ × X)) (n : ℕ) → Rises (e ∷ es) → passes test es n ≡ true → passes test (e ∷ es) n ≡ true
  passes_rest test e es n r p =
      let above : e.0 < n = passes_above test e.0 n es (above_first e es r) p in
      ap (λ o. option_map_or test o false) (found_later e es n (λ is. absurd (omega arith))) ∙ p

  first_yes : (test : X → Bool) (e : ℕ × X) (es : List (ℕ × X)) → test e.1 ≡ true → first_number test (e ∷ es) ≡ Some e.0
  first_yes test e es hit = ap (λ b. option_map (λ (d : ℕ × X). d.0) (cond b (Some e) (find (λ d. test d.1) es))) hit

  first_no : (test : X → Bool) (e : ℕ × X) (es : List (ℕ × X)) → test e.1 ≡ false → first_number test (e ∷ es) ≡ first_number test es
  first_no test e es miss = ap (λ b. option_map (λ (d : ℕ × X). d.0) (cond b (Some e) (find (λ d. test d.1) es))) miss

  -- the least number that passes is that of the first
  pub first_is : (test : X → Bool) (es : List (ℕ × X)) (n : ℕ) → Rises es → passes test es n ≡ true → ((m : ℕ) → passes test es m ≡ true → n ≤ m) → first_number test es ≡ Some n
  first_is test [] n r p least = absurd (both_ways false refl p)
  first_is test (e ∷ es) n r p least = ⊎_elim
      (λ (hit : test e.1 ≡ true).
      let here : n ≤ e.0 = least e.0 (ap (λ o. option_map_or test o false) (found_here e es e.0 refl) ∙ hit) in
      first_yes test e es hit ∙ ap Some (⊎_elim
      (λ (is : n ≡ e.0). sym is)
      (λ (not : n ≡ e.0 → ⊥).
      let above : e.0 < n = passes_above test e.0 n es (above_first e es r) (sym (ap (λ o. option_map_or test o false) (found_later e es n not)) ∙ p) in
      absurd (omega arith))
      (cases_eq n e.0)))
      (λ (miss : test e.1 ≡ false).
      let not : n ≡ e.0 → ⊥ = λ is. both_ways (test e.1) miss (sym (ap (λ o. option_map_or test o false) (found_here e es n is)) ∙ p) in
      first_no test e es miss ∙ first_is test es n (rest_rises e es r)
      (sym (ap (λ o. option_map_or test o false) (found_later e es n not)) ∙ p)
      (λ m q. least m (passes_rest test e es m r q)))
      (cases_Bool (test e.1))

  pub first_is_none : (test : X → Bool) (es : List (ℕ × X)) → Rises es → ((m : ℕ) → passes test es m ≡ true → ⊥) → first_number test es ≡ None
  first_is_none test [] r none = refl
  first_is_none test (e ∷ es) r none = ⊎_elim
      (λ (hit : test e.1 ≡ true). absurd (none e.0 (ap (λ o. option_map_or test o false) (found_here e es e.0 refl) ∙ hit)))
      (λ (miss : test e.1 ≡ false). first_no test e es miss ∙ first_is_none test es (rest_rises e es r) (λ m q. none m (passes_rest test e es m r q)))
      (cases_Bool (test e.1))

  pub passes_below : (test : X → Bool) (es : List (ℕ × X)) (b n : ℕ) → AreBelow es b → passes test es n ≡ true → n < b
  passes_below test [] b n below p = absurd (both_ways false refl p)
  passes_below test (e ∷ es) b n below p = ⊎_elim
      (λ (is : n ≡ e.0). subst (λ x. x < b) (sym is) (All-head (λ k. k < b) e.0 (keys_of es) below))
      (λ (not : n ≡ e.0 → ⊥). passes_below test es b n (All-tail (λ k. k < b) e.0 (keys_of es) below) (sym (ap (λ o. option_map_or test o false) (found_later e es n not)) ∙ p))
      (cases_eq n e.0)

  -- ---- one more, with a number above the others

  pub number_pushed : (es : List (ℕ × X)) (n m : ℕ) (x : X) → AreBelow es n → numbered (es ++ (n, x) ∷ []) m ≡ cond (n == m) (Some x) (numbered es m)
  number_pushed [] n m x below = ap (λ b. cond b (Some x) None) (is_at-eqb m n ∙ grind (arith, nat_tests))
  number_pushed (e ∷ es) n m x below =
      let less : e.0 < n = All-head (λ k. k < n) e.0 (keys_of es) below in
      let more : numbered (es ++ (n, x) ∷ []) m ≡ cond (n == m) (Some x) (numbered es m) = number_pushed es n m x (All-tail (λ k. k < n) e.0 (keys_of es) below) in
      ⊎_elim
      (λ (is : m ≡ e.0). found_here e (es ++ (n, x) ∷ []) m is ∙ sym (ap (λ b. cond b (Some x) (numbered (e ∷ es) m)) (ne_eqb n m (λ same. absurd (omega arith))) ∙ found_here e es m is))
      (λ (not : m ≡ e.0 → ⊥). found_later e (es ++ (n, x) ∷ []) m not ∙ more ∙ ap (λ o. cond (n == m) (Some x) o) (sym (found_later e es m not)))
      (cases_eq m e.0)

  above_push : (c n : ℕ) (x : X) (es : List (ℕ × X)) → AllByRecursion (λ k. nat_cmp c k ≡ Less) (keys_of es) → c < n → AllByRecursion (λ k. nat_cmp c k ≡ Less) (keys_of (es ++ (n, x) ∷ []))
  above_push c n x [] a less = (lt-less c n less, tt)
  above_push c n x (e ∷ es) a less = (a.0, above_push c n x es a.1 less)

  pub rises_pushed : (es : List (ℕ × X)) (n : ℕ) (x : X) → Rises es → AreBelow es n → Rises (es ++ (n, x) ∷ [])
  rises_pushed [] n x r below = rises_one (n, x)
  rises_pushed (e ∷ es) n x r below = rises_cons e (es ++ (n, x) ∷ [])
      (above_push e.0 n x es (above_first e es r) (All-head (λ k. k < n) e.0 (keys_of es) below))
      (rises_pushed es n x (rest_rises e es r) (All-tail (λ k. k < n) e.0 (keys_of es) below))

  pub insert_last : (es : List (ℕ × X)) (n : ℕ) (x : X) → AreBelow es n → insert_entry nat_cmp es n x ≡ es ++ (n, x) ∷ []
  insert_last [] n x below = refl
  insert_last (e ∷ es) n x below =
      rw (greater e.0 n (All-head (λ k. k < n) e.0 (keys_of es) below))
      (ap (λ l. e ∷ l) (insert_last es n x (All-tail (λ k. k < n) e.0 (keys_of es) below)))

  pub below_pushed : (es : List (ℕ × X)) (n b : ℕ) (x : X) → AreBelow es b → n < b → AreBelow (es ++ (n, x) ∷ []) b
  below_pushed [] n b x below small = All-cons (λ k. k < b) n [] small (All-nil (λ k. k < b))
  below_pushed (e ∷ es) n b x below small =
      All-cons (λ k. k < b) e.0 (keys_of (es ++ (n, x) ∷ [])) (All-head (λ k. k < b) e.0 (keys_of es) below)
      (below_pushed es n b x (All-tail (λ k. k < b) e.0 (keys_of es) below) small)

  -- ---- one less

  above_less : (c n : ℕ) (es : List (ℕ × X)) → AllByRecursion (λ k. nat_cmp c k ≡ Less) (keys_of es) → AllByRecursion (λ k. nat_cmp c k ≡ Less) (keys_of (without_number es n))
  above_less c n [] a = tt
  above_less c n (e ∷ es) a = ⊎_elim
      (λ (is : n ≡ e.0). subst (λ l. AllByRecursion (λ k. nat_cmp c k ≡ Less) (keys_of l)) (sym (dropped_here e es n is)) a.1)
      (λ (not : n ≡ e.0 → ⊥). subst (λ l. AllByRecursion (λ k. nat_cmp c k ≡ Less) (keys_of l)) (sym (kept_later e es n not)) (a.0, above_less c n es a.1))
      (cases_eq n e.0)

  pub rises_less : (es : List (ℕ × X)) (n : ℕ) → Rises es → Rises (without_number es n)
  rises_less [] n r = r
  rises_less (e ∷ es) n r = ⊎_elim
      (λ (is : n ≡ e.0). subst Rises (sym (dropped_here e es n is)) (rest_rises e es r))
      (λ (not : n ≡ e.0 → ⊥). subst Rises (sym (kept_later e es n not)) (rises_cons e (without_number es n) (above_less e.0 n es (above_first e es r)) (rises_less es n (rest_rises e es r))))
      (cases_eq n e.0)

  not_above : (m : ℕ) (es : List (ℕ × X)) → AllByRecursion (λ k. nat_cmp m k ≡ Less) (keys_of es) → numbered es m ≡ None
  not_above m [] a = refl
  not_above m (e ∷ es) a =
      let less : m < e.0 = less-lt m e.0 a.0 in
      found_later e es m (λ is. absurd (omega arith)) ∙ not_above m es a.1

  pub number_left : (es : List (ℕ × X)) (n m : ℕ) → Rises es → numbered (without_number es n) m ≡ cond (n == m) None (numbered es m)
  number_left [] n m r = grind (arith, nat_tests)
  number_left (e ∷ es) n m r = ⊎_elim
      (λ (is : n ≡ e.0). ap (λ l. numbered l m) (dropped_here e es n is) ∙ ⊎_elim
      (λ (also : m ≡ e.0). ap (λ k. numbered es k) also ∙ not_above e.0 es (above_first e es r) ∙ sym (ap (λ b. cond b None (numbered (e ∷ es) m)) (eq-eqb n m (is ∙ sym also))))
      (λ (not : m ≡ e.0 → ⊥). sym (found_later e es m not) ∙ sym (ap (λ b. cond b None (numbered (e ∷ es) m)) (ne_eqb n m (λ same. not (sym same ∙ is)))))
      (cases_eq m e.0))
      (λ (other : n ≡ e.0 → ⊥). ap (λ l. numbered l m) (kept_later e es n other) ∙ ⊎_elim
      (λ (also : m ≡ e.0). found_here e (without_number es n) m also ∙ sym (ap (λ b. cond b None (numbered (e ∷ es) m)) (ne_eqb n m (λ same. other (same ∙ also))) ∙ found_here e es m also))
      (λ (not : m ≡ e.0 → ⊥). found_later e (without_number es n) m not ∙ number_left es n m (rest_rises e es r) ∙ ap (λ o. cond (n == m) None o) (sym (found_later e es m not)))
      (cases_eq m e.0))
      (cases_eq n e.0)

  -- ---- places

  -- the request of a number, if there is one
  abbrev pub at_any : List (ℕ × X) → Option ℕ → Option X
  at_any es None = None
  at_any es (Some n) = numbered es n

  abbrev pub without_any : List (ℕ × X) → Option ℕ → List (ℕ × X)
  without_any es None = es
  without_any es (Some n) = without_number es n

  abbrev pub IsPlaceOf : List (ℕ × X) → Option ℕ → Option ℕ → Type 0
  IsPlaceOf es None None = Unit {0}
  IsPlaceOf es None (Some n) = ⊥
  IsPlaceOf es (Some i) None = ⊥
  IsPlaceOf es (Some i) (Some n) = (x : X) × (slice_get es i ≡ Some (n, x))

  place_here : (test : X → Bool) (x : X) (xs : List X) → test x ≡ true → position test (x ∷ xs) ≡ Some 0
  place_here test x xs hit = rw hit (ap (λ b. cond b (Some 0) None) (lt-ltb 0 (suc (length xs)) (omega arith)))

  place_later : (test : X → Bool) (x : X) (xs : List X) → test x ≡ false → position test (x ∷ xs) ≡ option_map suc (position test xs)
  place_later test x xs miss = rw miss (by_length (position_or_len test xs) (length xs))
    where
      by_length : (i l : ℕ) → cond (nat_lt (1 + i) (suc l)) (Some (1 + i)) None ≡ option_map suc (cond (nat_lt i l) (Some i) None)
      by_length i l = grind (arith, nat_tests)

  one_further : (e : ℕ × X) (es : List (ℕ × X)) (p n : Option ℕ) → IsPlaceOf es p n → IsPlaceOf (e ∷ es) (option_map suc p) n
  one_further e es None None h = tt
  one_further e es None (Some n) h = h
  one_further e es (Some i) None h = h
  one_further e es (Some i) (Some n) h = h

  pub place_of_first : (test : X → Bool) (es : List (ℕ × X)) → IsPlaceOf es (position test (values_of es)) (first_number test es)
  place_of_first test [] = tt
  place_of_first test (e ∷ es) = ⊎_elim
      (λ (hit : test e.1 ≡ true). rw (place_here test e.1 (values_of es) hit, first_yes test e es hit) (e.1, refl))
      (λ (miss : test e.1 ≡ false). rw (place_later test e.1 (values_of es) miss, first_no test e es miss) (one_further e es _ _ (place_of_first test es)))
      (cases_Bool (test e.1))

  pub place_of_either : (es : List (ℕ × X)) (p q m n : Option ℕ) → IsPlaceOf es p m → IsPlaceOf es q n → IsPlaceOf es (or_else p q) (or_else m n)
  place_of_either es None q None n h k = k
  place_of_either es None q (Some m) n h k = absurd h
  place_of_either es (Some i) q None n h k = absurd h
  place_of_either es (Some i) q (Some m) n h k = h

  key_above : (c i n : ℕ) (x : X) (es : List (ℕ × X)) → AllByRecursion (λ k. nat_cmp c k ≡ Less) (keys_of es) → slice_get es i ≡ Some (n, x) → c < n
  key_above c i n x [] a at = absurd (no_some (n, x) at)
  key_above c zero n x (e ∷ es) a at =
      let same = some_same e (n, x) at in
      subst (λ (k : ℕ × X). c < k.0) same (less-lt c e.0 a.0)
  key_above c (suc i) n x (e ∷ es) a at = key_above c i n x es a.1 at

  numbered_at : (es : List (ℕ × X)) (i n : ℕ) (x : X) → Rises es → slice_get es i ≡ Some (n, x) → (slice_get (values_of es) i ≡ numbered es n) × (remove (values_of es) i ≡ values_of (without_number es n))
  numbered_at [] i n x r at = absurd (no_some (n, x) at)
  numbered_at (e ∷ es) zero n x r at =
      let same = some_same e (n, x) at in
      let is : n ≡ e.0 = sym (ap (λ (k : ℕ × X). k.0) same) in
      (sym (found_here e es n is), sym (ap values_of (dropped_here e es n is)))
  numbered_at (e ∷ es) (suc i) n x r at =
      let more = numbered_at es i n x (rest_rises e es r) at in
      let less : e.0 < n = key_above e.0 i n x es (above_first e es r) at in
      let not : n ≡ e.0 → ⊥ = λ is. absurd (omega arith) in
      (more.0 ∙ sym (found_later e es n not), ap (λ l. e.1 ∷ l) more.1 ∙ sym (ap values_of (kept_later e es n not)))

  -- the request at a place is the one of its number
  pub at_number : (es : List (ℕ × X)) (p m : Option ℕ) → Rises es → IsPlaceOf es p m → at_place (values_of es) p ≡ at_any es m
  at_number es None None r h = refl
  at_number es None (Some n) r h = absurd h
  at_number es (Some i) None r h = absurd h
  at_number es (Some i) (Some n) r h = (numbered_at es i n h.0 r h.1).0

  pub left_by_number : (es : List (ℕ × X)) (p m : Option ℕ) → Rises es → IsPlaceOf es p m → without_place (values_of es) p ≡ values_of (without_any es m)
  left_by_number es None None r h = refl
  left_by_number es None (Some n) r h = absurd h
  left_by_number es (Some i) None r h = absurd h
  left_by_number es (Some i) (Some n) r h = (numbered_at es i n h.0 r h.1).1

-- ---- what an answer answers

place_of_answered : (es : List (ℕ × Request)) (hop e2e : ℕ) → IsPlaceOf es (answered_place (values_of es) hop e2e) (answered_number es hop e2e)
place_of_answered es hop e2e = place_of_either es _ _ _ _ (place_of_first (has_ids hop e2e) es) (place_of_first (has_hop hop) es)

pub answered_at : (es : List (ℕ × Request)) (hop e2e : ℕ) (m : Option ℕ) → Rises es → m ≡ answered_number es hop e2e → at_place (values_of es) (answered_place (values_of es) hop e2e) ≡ at_any es m
answered_at es hop e2e m r is = at_number es _ (answered_number es hop e2e) r (place_of_answered es hop e2e) ∙ ap (at_any es) (sym is)

pub answered_left : (es : List (ℕ × Request)) (hop e2e : ℕ) (m : Option ℕ) → Rises es → m ≡ answered_number es hop e2e → without_place (values_of es) (answered_place (values_of es) hop e2e) ≡ values_of (without_any es m)
answered_left es hop e2e m r is = left_by_number es _ (answered_number es hop e2e) r (place_of_answered es hop e2e) ∙ ap (λ n. values_of (without_any es n)) (sym is)

-- the line of the first that passes
pub line_at : (test : Request → Bool) (es : List (ℕ × Request)) (m : Option ℕ) → Rises es → m ≡ first_number test es → option_map line_of (at_any es m) ≡ option_map line_of (first test (values_of es))
line_at test es m r is = ap (λ n. option_map line_of (at_any es n)) is ∙ sym (ap (option_map line_of) (at_number es _ (first_number test es) r (place_of_first test es)))

value_at : {X : Type 0} (es : List (ℕ × X)) (i n : ℕ) (x : X) → slice_get es i ≡ Some (n, x) → slice_get (values_of es) i ≡ Some x
value_at [] i n x at = absurd (no_some (n, x) at)
value_at {X} (e ∷ es) zero n x at = ap (option_map (λ (k : ℕ × X). k.1)) at
value_at (e ∷ es) (suc i) n x at = value_at es i n x at

some_at : (es : List (ℕ × Request)) (p m : Option ℕ) → Rises es → IsPlaceOf es p m → is_some (at_any es m) ≡ is_some p
some_at es None None r h = refl
some_at es None (Some n) r h = absurd h
some_at es (Some i) None r h = absurd h
some_at es (Some i) (Some n) r h = ap is_some (sym (at_number es (Some i) (Some n) r h) ∙ value_at es i n h.0 h.1)

-- there is a request exactly where there is a place
pub answered_known : (es : List (ℕ × Request)) (hop e2e : ℕ) (m : Option ℕ) → Rises es → m ≡ answered_number es hop e2e → is_some (at_any es m) ≡ is_some (answered_place (values_of es) hop e2e)
answered_known es hop e2e m r is =
    ap (λ n. is_some (at_any es n)) is ∙ some_at es (answered_place (values_of es) hop e2e) (answered_number es hop e2e) r (place_of_answered es hop e2e)

pub copied_known : {X : Type 0} (r : Option (Bor X)) → is_some r ≡ is_some (option_copied r)
copied_known None = refl
copied_known (Some x) = refl

-- ---- the first taken out

pub values_dropped : {X : Type 0} (es : List (ℕ × X)) → values_of (drop 1 es) ≡ drop 1 (values_of es)
values_dropped [] = refl
values_dropped (e ∷ es) = refl

pub below_dropped : {X : Type 0} (es : List (ℕ × X)) (b : ℕ) → AreBelow es b → AreBelow (drop 1 es) b
below_dropped [] b below = below
below_dropped (e ∷ es) b below = All-tail (λ k. k < b) e.0 (keys_of es) below

pub values_pushed : {X : Type 0} (es : List (ℕ × X)) (n : ℕ) (x : X) → values_of (es ++ (n, x) ∷ []) ≡ values_of es ++ x ∷ []
values_pushed [] n x = refl
values_pushed (e ∷ es) n x = ap (λ l. e.1 ∷ l) (values_pushed es n x)

-- ---- numbered anew, from 0

no_first : {X : Type 0} (x : X) → Some x ≡ None → ⊥
no_first x e = cc

pub values_moved : {X : Type 0} (from to : List (ℕ × X)) (n : ℕ) (x : X) → Some x ≡ option_map (λ (e : ℕ × X). e.1) (slice_get from 0) → values_of (to ++ (n, x) ∷ []) ++ values_of (drop 1 from) ≡ values_of to ++ values_of from
values_moved [] to n x first = absurd (no_first x first)
values_moved (e ∷ es) to n x first =
    ap (λ l. l ++ values_of es) (values_pushed to n x)
    ∙ append_assoc (values_of to) (x ∷ []) (values_of es)
    ∙ ap (λ y. values_of to ++ (y ∷ values_of es)) (some_same x e.1 first)

pub below_next : {X : Type 0} (to : List (ℕ × X)) (n b : ℕ) (x : X) → AreBelow to n → b ≡ n + 1 → AreBelow (to ++ (n, x) ∷ []) b
below_next to n b x below is = below_pushed to n b x (All-weaker (λ k. k < n) (λ k. k < b) (λ k less. omega arith) (keys_of to) below) (omega arith)

pub below_length : {X : Type 0} (to : List (ℕ × X)) (n : ℕ) (x : X) → AreBelow to (length to) → n ≡ length to → AreBelow (to ++ (n, x) ∷ []) (length (to ++ (n, x) ∷ []))
below_length to n x below is =
    let long : length (to ++ (n, x) ∷ []) ≡ length to + 1 = length-append to ((n, x) ∷ []) in
    below_next to n _ x (subst (λ m. AreBelow to m) (sym is) below) (omega arith)
