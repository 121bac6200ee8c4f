-- The byte at a place, of the first that has it.
use Rattle.std.proofs.Common.{◌≡◌, ℕ, zero, suc, ◌+◌, ◌-◌, ◌<◌, ◌≤◌, List, [], ◌∷◌, ◌++◌, length, get_or, take, drop, Bool, true, false, Option}
use Rattle.std.proofs.Common.{Some, None, inl, inr, min, refl, subst, ap, sym, ◌∙◌, arith}
use Rattle.std.specs.Prelude.{◌⊎◌, ◌&&◌, slice_get, nat_lt}
use Rattle.std.specs.List.{list_all}
use Rattle.std.specs.Option.{option_or}
use Rattle.std.proofs.lemmas.Bool.{cases_lt, leb-true, le-leb, lt-ltb, le-ltb}
use Rattle.std.proofs.lemmas.List.{length-take, take_more}
use Rattle.std.proofs.lemmas.List.Folds.{list_all_more}
use Rattle.std.proofs.lemmas.Option.{slice_get-get_or, slice_get_past}
use Rattle.dia_directions.proofs.Gets.{slice_get-drop, slice_get-take}
use Rattle.dia_directions.specs.Order.{Placed, byte_at, byte_in, is_from}

-- ---- tests

pub and_first : (a b : Bool) → (a && b) ≡ true → a ≡ true
and_first true b both = refl
and_first false b both = both

pub and_second : (a b : Bool) → (a && b) ≡ true → b ≡ true
and_second true b both = both
and_second false b both = cc

pub both_true : (a b : Bool) → a ≡ true → b ≡ true → (a && b) ≡ true
both_true a b is_a is_b = rw (is_a, is_b) refl

-- ---- one

pub byte_in_before : (p : Placed) (i : ℕ) → i < p.place → byte_in p i ≡ None
byte_in_before p i before = rw (lt-ltb i p.place before) refl

pub byte_in_from : (p : Placed) (i j : ℕ) → i ≡ p.place + j → byte_in p i ≡ slice_get p.bytes j
byte_in_from p i j same =
    let past : nat_lt i p.place ≡ false = le-ltb i p.place (omega (arith, same)) in
    rw past (ap (λ k. slice_get p.bytes k) (omega (arith, same)))

pub byte_in_behind : (p : Placed) (i : ℕ) → p.place + length p.bytes ≤ i → byte_in p i ≡ None
byte_in_behind p i behind = byte_in_from p i (i - p.place) (omega (arith, behind)) ∙ slice_get_past p.bytes (i - p.place) (omega (arith, behind))

-- ---- several

pub byte_at-push_none : (ps : List Placed) (p : Placed) (i : ℕ) → byte_at ps i ≡ None → byte_in p i ≡ None → byte_at (ps ++ p ∷ []) i ≡ None
byte_at-push_none [] p i none here = ap (λ o. option_or o None) here
byte_at-push_none (q ∷ ps) p i none here = cases (byte_in q i) none (λ e. byte_at-push_none ps p i e here)
  where
    cases : (o : Option (Option ℕ)) → option_or o (byte_at ps i) ≡ None → (byte_at ps i ≡ None → byte_at (ps ++ p ∷ []) i ≡ None) → option_or o (byte_at (ps ++ p ∷ []) i) ≡ None
    cases None e rest = rest e
    cases (Some b) e rest = cc

-- what none of the first ones has is that of the next one
pub byte_at_found : (ps : List Placed) (k : ℕ) (d : Placed) (i : ℕ) (b : Option ℕ) → k < length ps → byte_at (take k ps) i ≡ None → byte_in (get_or ps k d) i ≡ Some b
    → byte_at ps i ≡ Some b
byte_at_found [] k d i b within none here = absurd (omega (arith, within))
byte_at_found (p ∷ ps) zero d i b within none here = ap (λ o. option_or o (byte_at ps i)) here
byte_at_found (p ∷ ps) (suc k) d i b within none here = cases (byte_in p i) none (λ e. byte_at_found ps k d i b (omega (arith, within)) e here)
  where
    cases : (o : Option (Option ℕ)) → option_or o (byte_at (take k ps) i) ≡ None → (byte_at (take k ps) i ≡ None → byte_at ps i ≡ Some b) → option_or o (byte_at ps i) ≡ Some b
    cases None e rest = rest e
    cases (Some a) e rest = cc

-- nor has the next one
pub byte_at-take_more : (ps : List Placed) (k : ℕ) (d : Placed) (i : ℕ) → k < length ps → byte_at (take k ps) i ≡ None → byte_in (get_or ps k d) i ≡ None → byte_at (take (k + 1) ps) i ≡ None
byte_at-take_more ps k d i within none here = ap (λ qs. byte_at qs i) (take_more ps k d within) ∙ byte_at-push_none (take k ps) (get_or ps k d) i none here

-- a part of the next one that begins at a place
pub byte_at_part : (ps : List Placed) (k : ℕ) (d : Placed) (place skip most i : ℕ) (bytes : List (Option ℕ)) → k < length ps → (get_or ps k d).place + skip ≡ place
    → bytes ≡ take most (drop skip (get_or ps k d).bytes) → i < length bytes → byte_at (take k ps) (place + i) ≡ None → byte_at ps (place + i) ≡ slice_get bytes i
byte_at_part ps k d place skip most i bytes within there same short none =
    let p = get_or ps k d in
    let few : i < most = omega (arith, short, ap length same, length-take most (drop skip p.bytes)) in
    let of : slice_get bytes i ≡ byte_in p (place + i) =
    ap (λ bs. slice_get bs i) same ∙ slice_get-take most i (drop skip p.bytes) few ∙ slice_get-drop skip i p.bytes ∙ sym (byte_in_from p (place + i) (skip + i) (omega (arith, there))) in
    let is : slice_get bytes i ≡ Some (get_or bytes i None) = slice_get-get_or bytes i None short in
    byte_at_found ps k d (place + i) (get_or bytes i None) within none (sym of ∙ is) ∙ sym is

-- the byte of several and one more is that of one of them
pub byte_at-push : (ps : List Placed) (p : Placed) (i : ℕ) (b : Option ℕ) → byte_at (ps ++ p ∷ []) i ≡ Some b → (byte_at ps i ≡ Some b) ⊎ (byte_in p i ≡ Some b)
byte_at-push [] p i b is = inr (only (byte_in p i) is)
  where
    only : (o : Option (Option ℕ)) → option_or o None ≡ Some b → o ≡ Some b
    only None e = e
    only (Some a) e = e
byte_at-push (q ∷ ps) p i b is = cases (byte_in q i) is (λ e. byte_at-push ps p i b e)
  where
    cases : (o : Option (Option ℕ)) → option_or o (byte_at (ps ++ p ∷ []) i) ≡ Some b
        → (byte_at (ps ++ p ∷ []) i ≡ Some b → (byte_at ps i ≡ Some b) ⊎ (byte_in p i ≡ Some b)) → (option_or o (byte_at ps i) ≡ Some b) ⊎ (byte_in p i ≡ Some b)
    cases None e rest = rest e
    cases (Some a) e rest = inl e

pub byte_at-push_first : (ps : List Placed) (p : Placed) (i : ℕ) (b : Option ℕ) → byte_at ps i ≡ Some b → byte_at (ps ++ p ∷ []) i ≡ Some b
byte_at-push_first [] p i b is = cc
byte_at-push_first (q ∷ ps) p i b is = cases (byte_in q i) is (λ e. byte_at-push_first ps p i b e)
  where
    cases : (o : Option (Option ℕ)) → option_or o (byte_at ps i) ≡ Some b → (byte_at ps i ≡ Some b → byte_at (ps ++ p ∷ []) i ≡ Some b) → option_or o (byte_at (ps ++ p ∷ []) i) ≡ Some b
    cases None e rest = rest e
    cases (Some a) e rest = e

-- one of them has it, if the last one does
pub byte_at-push_some : (ps : List Placed) (p : Placed) (i : ℕ) (b : Option ℕ) → byte_in p i ≡ Some b → (a : Option ℕ) × (byte_at (ps ++ p ∷ []) i ≡ Some a)
byte_at-push_some [] p i b is = (b, ap (λ o. option_or o None) is)
byte_at-push_some (q ∷ ps) p i b is = cases (byte_in q i) (byte_at-push_some ps p i b is)
  where
    cases : (o : Option (Option ℕ)) → ((a : Option ℕ) × (byte_at (ps ++ p ∷ []) i ≡ Some a)) → (a : Option ℕ) × (option_or o (byte_at (ps ++ p ∷ []) i) ≡ Some a)
    cases None rest = rest
    cases (Some a) rest = (a, refl)

-- ---- the nearest one

-- each of several has what the test of all says
pub list_all_at_true : {X : Type 0} (test : X → Bool) (xs : List X) (k : ℕ) (d : X) → list_all test xs ≡ true → k < length xs → test (get_or xs k d) ≡ true
list_all_at_true test [] k d all within = absurd (omega (arith, within))
list_all_at_true test (x ∷ xs) zero d all within = and_first (test x) (list_all test xs) all
list_all_at_true test (x ∷ xs) (suc k) d all within = list_all_at_true test xs k d (and_second (test x) (list_all test xs) all) (omega (arith, within))

pub list_all-from_lower : (a b : ℕ) (ps : List Placed) → a ≤ b → list_all (is_from b) ps ≡ true → list_all (is_from a) ps ≡ true
list_all-from_lower a b [] low all = refl
list_all-from_lower a b (p ∷ ps) low all =
    both_true (is_from a p) (list_all (is_from a) ps)
    (le-leb a p.place (omega (arith, low, leb-true b p.place (and_first (is_from b p) (list_all (is_from b) ps) all))))
    (list_all-from_lower a b ps low (and_second (is_from b p) (list_all (is_from b) ps) all))

-- there is none before it
pub byte_at_gap : (n i : ℕ) (ps : List Placed) → list_all (is_from n) ps ≡ true → i < n → byte_at ps i ≡ None
byte_at_gap n i [] all before = refl
byte_at_gap n i (p ∷ ps) all before =
    ap (λ o. option_or o (byte_at ps i)) (byte_in_before p i (omega (arith, before, leb-true n p.place (and_first (is_from n p) (list_all (is_from n) ps) all))))
    ∙ byte_at_gap n i ps (and_second (is_from n p) (list_all (is_from n) ps) all) before

-- the first byte of one that has bytes
pub byte_in_first : (p : Placed) → 0 < length p.bytes → (b : Option ℕ) × (byte_in p p.place ≡ Some b)
byte_in_first p some = (get_or p.bytes 0 None, byte_in_from p p.place 0 (omega arith) ∙ slice_get-get_or p.bytes 0 None some)

pub byte_in_none : (p : Placed) (i : ℕ) → length p.bytes ≡ 0 → byte_in p i ≡ None
byte_in_none p i empty = cases (cases_lt i p.place)
  where
    cases : (i < p.place) ⊎ (p.place ≤ i) → byte_in p i ≡ None
    cases (inl before) = byte_in_before p i before
    cases (inr from) = byte_in_behind p i (omega (arith, from, empty))

-- one that has no bytes changes nothing
pub byte_at-push_empty : (ps : List Placed) (p : Placed) (i : ℕ) → p.bytes ≡ [] → byte_at (ps ++ p ∷ []) i ≡ byte_at ps i
byte_at-push_empty [] p i empty = ap (λ o. option_or o None) (byte_in_none p i (ap length empty))
byte_at-push_empty (q ∷ ps) p i empty = ap (λ o. option_or (byte_in q i) o) (byte_at-push_empty ps p i empty)

-- ---- the nearest one of the first ones, and of one more

pub list_all-nearest : (ps : List Placed) (k : ℕ) (p : Placed) (least m : ℕ) → k < length ps → p ≡ get_or ps k p → m ≡ min least p.place → list_all (is_from least) (take k ps) ≡ true
    → list_all (is_from m) (take (k + 1) ps) ≡ true
list_all-nearest ps k p least m within read same low =
    list_all_more (is_from m) ps k p within
    ∙ both_true (list_all (is_from m) (take k ps)) (is_from m (get_or ps k p)) (list_all-from_lower m least (take k ps) (omega (arith, same)) low)
    (subst (λ (q : Placed). is_from m q ≡ true) read (le-leb m p.place (omega (arith, same))))

pub byte_at-nearest : (ps : List Placed) (k : ℕ) (p : Placed) (least m most : ℕ) → k < length ps → p ≡ get_or ps k p → 0 < length p.bytes → m ≡ min least p.place → p.place ≤ most
    → ((k ≡ 0) × (least ≡ most)) ⊎ ((b : Option ℕ) × (byte_at (take k ps) least ≡ Some b)) → (b : Option ℕ) × (byte_at (take (k + 1) ps) m ≡ Some b)
byte_at-nearest ps k p least m most within read some same bounded before = joined (cases (cases_lt least p.place) before)
  where
    here : p.place ≤ least → (b : Option ℕ) × (byte_at (take k ps ++ p ∷ []) m ≡ Some b)
    here near =
        let is : m ≡ p.place = omega (arith, same, near) in
        let first = byte_in_first p some in
        byte_at-push_some (take k ps) p m first.0 (ap (λ i. byte_in p i) is ∙ first.1)

    cases : (least < p.place) ⊎ (p.place ≤ least) → ((k ≡ 0) × (least ≡ most)) ⊎ ((b : Option ℕ) × (byte_at (take k ps) least ≡ Some b)) → (b : Option ℕ) × (byte_at (take k ps ++ p ∷ []) m ≡ Some b)
    cases (inl far) (inl (none, is)) = absurd (omega (arith, far, is, bounded))
    cases (inl far) (inr (b, e)) =
        let is : m ≡ least = omega (arith, same, far) in
        (b, byte_at-push_first (take k ps) p m b (ap (λ i. byte_at (take k ps) i) is ∙ e))
    cases (inr near) old = here near

    joined : (b : Option ℕ) × (byte_at (take k ps ++ p ∷ []) m ≡ Some b) → (b : Option ℕ) × (byte_at (take (k + 1) ps) m ≡ Some b)
    joined (b, e) = (b, ap (λ qs. byte_at qs m) (take_more ps k p within ∙ ap (λ q. take k ps ++ q ∷ []) (sym read)) ∙ e)
