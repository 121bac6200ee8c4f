-- What a tally records, before and after a rule is counted anew.
use Rattle.std.proofs.Common.{◌≡◌, ◌≢◌, ℕ, zero, suc, ◌+◌, ◌-◌, ◌<◌, ◌≤◌, Bool, true, false, List, [], ◌∷◌, ◌++◌, length, take, drop, set, get_or, Some, refl, sym, ap, subst, ◌∙◌, arith}
use Rattle.std.proofs.Math.Bridge.{le_prop}
use Rattle.std.specs.Prelude.{◌==◌, if◌then◌else◌, insert, slice_get}
use Rattle.std.specs.List.Sorted.{IsNonDecreasingBy, IsPartitionPoint}
use Rattle.std.proofs.Math.Dec.{ltb}
use Rattle.std.proofs.Math.Seq.{drop-length, take-append_seam, drop-append_seam}
use Rattle.std.proofs.lemmas.Bool.{both_ways, eq-eqb, eqb-true, ltb-true, ltb-false}
use Rattle.std.proofs.lemmas.List.{take-append-drop, take_all, length-drop, length-take-le}
use Rattle.std.proofs.lemmas.List.Edits.{length-insert}
use Rattle.std.proofs.lemmas.Option.{none-some, same_Some, slice_get_within}
use Rattle.dia_check.specs.declared.open_levels.tally.Met.{Met}
use Rattle.dia_check.specs.Tallies.{count_in, never, unmet, AreRising, AreBelow, HasPlaceFor, IsPlaceOf, IsRecorded}

-- ---- one count

pub count_here : (m : Met) (tally : List Met) (rule : ℕ) → m.rule ≡ rule → count_in (m ∷ tally) rule ≡ m.count
count_here m tally rule e = ap (λ (b : Bool). if b then m.count else count_in tally rule) (eq-eqb m.rule rule e)

pub count_other : (m : Met) (tally : List Met) (rule : ℕ) → m.rule ≢ rule → count_in (m ∷ tally) rule ≡ count_in tally rule
count_other m tally rule other = by (m.rule == rule) refl
  where
    by : (b : Bool) → (m.rule == rule) ≡ b → (if b then m.count else count_in tally rule) ≡ count_in tally rule
    by true e = absurd (other (eqb-true m.rule rule e))
    by false e = refl

-- a rule before all that are recorded
pub count_before : (rule from : ℕ) (tally : List Met) → AreRising from tally → rule < from → count_in tally rule ≡ 0
count_before rule from [] rising lt = refl
count_before rule from (m ∷ tally) (le, rising) lt =
    count_other m tally rule (λ e. omega (arith, e, le, lt)) ∙ count_before rule (m.rule + 1) tally rising (omega (arith, le, lt))

-- a rule after the first ones
pub count_after : (front tally : List Met) (to rule : ℕ) → AreBelow to front → to ≤ rule → count_in (front ++ tally) rule ≡ count_in tally rule
count_after [] tally to rule below le = refl
count_after (m ∷ front) tally to rule (lt, below) le =
    count_other m (front ++ tally) rule (λ e. omega (arith, e, lt, le)) ∙ count_after front tally to rule below le

count_front : (front old new : List Met) (rule : ℕ) → count_in old rule ≡ count_in new rule → count_in (front ++ old) rule ≡ count_in (front ++ new) rule
count_front [] old new rule e = e
count_front (m ∷ front) old new rule e = ap (λ (n : ℕ). if m.rule == rule then m.count else n) (count_front front old new rule e)

-- ---- rules that rise

pub rising_less : (from to : ℕ) (tally : List Met) → from ≤ to → AreRising to tally → AreRising from tally
rising_less from to [] le rising = tt
rising_less from to (m ∷ tally) le (above, rising) = (omega (arith, le, above), rising)

rising_front : (from to : ℕ) (front old new : List Met) → AreRising from (front ++ old) → AreBelow to front → from ≤ to → AreRising to new → AreRising from (front ++ new)
rising_front from to [] old new rising below le more = rising_less from to new le more
rising_front from to (m ∷ front) old new (above, rising) (lt, below) le more = (above, rising_front (m.rule + 1) to front old new rising below (omega (arith, lt)) more)

pub rising_after : (from : ℕ) (front tally : List Met) → AreRising from (front ++ tally) → AreRising 0 tally
rising_after from [] tally rising = rising_less 0 from tally (omega arith) rising
rising_after from (m ∷ front) tally (above, rising) = rising_after (m.rule + 1) front tally rising

pub rising_drop : (n : ℕ) (tally : List Met) → AreRising 0 tally → AreRising 0 (drop n tally)
rising_drop n tally rising = rising_after 0 (take n tally) (drop n tally) (subst (AreRising 0) (sym (take-append-drop n tally)) rising)

pub rising_prop : (from : ℕ) (tally : List Met) → IsProp (AreRising from tally)
rising_prop from [] = λ a b. refl
rising_prop from (m ∷ tally) = hlevel (le_prop, rising_prop (m.rule + 1) tally)

pub below_prop : (to : ℕ) (tally : List Met) → IsProp (AreBelow to tally)
below_prop to [] = λ a b. refl
below_prop to (m ∷ tally) = hlevel (le_prop, below_prop to tally)

-- at most as many are recorded as there are rules
pub rising_size : (from to : ℕ) (tally : List Met) → AreRising from tally → AreBelow to tally → from ≤ to → from + length tally ≤ to
rising_size from to [] rising below le = omega (arith, le)
rising_size from to (m ∷ tally) (above, rising) (lt, below) le = let rest = rising_size (m.rule + 1) to tally rising below (omega (arith, lt)) in omega (arith, rest, above)

below_parts : (to : ℕ) (front tally : List Met) → AreBelow to (front ++ tally) → AreBelow to front × AreBelow to tally
below_parts to [] tally below = (tt, below)
below_parts to (m ∷ front) tally (lt, below) = let parts = below_parts to front tally below in ((lt, parts.0), parts.1)

below_join : (to : ℕ) (front tally : List Met) → AreBelow to front → AreBelow to tally → AreBelow to (front ++ tally)
below_join to [] tally first below = below
below_join to (m ∷ front) tally (lt, first) below = (lt, below_join to front tally first below)

-- ---- rules that were not met

pub unmet_rising : (from many : ℕ) → AreRising from (unmet from many)
unmet_rising from zero = tt
unmet_rising from (suc many) = (omega arith, unmet_rising (from + 1) many)

pub unmet_below : (from many to : ℕ) → from + many ≤ to → AreBelow to (unmet from many)
unmet_below from zero to le = tt
unmet_below from (suc many) to le = (omega (arith, le), unmet_below (from + 1) many to (omega (arith, le)))

none_or : (b : Bool) (n : ℕ) → n ≡ 0 → (if b then 0 else n) ≡ 0
none_or true n none = refl
none_or false n none = none

pub unmet_none : (from many rule : ℕ) → count_in (unmet from many) rule ≡ 0
unmet_none from zero rule = refl
unmet_none from (suc many) rule = none_or (from == rule) (count_in (unmet (from + 1) many) rule) (unmet_none (from + 1) many rule)

pub unmet_next : (from many : ℕ) → unmet from (many + 1) ≡ unmet from many ++ never (from + many) ∷ []
unmet_next from zero = ap (λ (n : ℕ). never n ∷ []) (let e : from ≡ from + 0 = omega arith in e)
unmet_next from (suc many) =
    ap (λ (n : ℕ). unmet from n) (let e : suc many + 1 ≡ suc (many + 1) = omega arith in e)
    ∙ ap (λ (t : List Met). never from ∷ t) (unmet_next (from + 1) many)
    ∙ ap (λ (n : ℕ). never from ∷ (unmet (from + 1) many ++ never n ∷ [])) (let e : from + 1 + many ≡ from + suc many = omega arith in e)

-- ---- a rule that is counted anew

set_parts : (tally : List Met) (i : ℕ) (m : Met) → i < length tally → set tally i m ≡ take i tally ++ m ∷ drop (suc i) tally
set_parts [] i m lt = absurd (omega (arith, lt))
set_parts (q ∷ tally) zero m lt = refl
set_parts (q ∷ tally) (suc i) m lt = ap (λ (t : List Met). q ∷ t) (set_parts tally i m (omega (arith, lt)))

drop_at : (tally : List Met) (i : ℕ) (m : Met) → slice_get tally i ≡ Some m → drop i tally ≡ m ∷ drop (suc i) tally
drop_at [] i m at = absurd (none-some m at)
drop_at (q ∷ tally) zero m at = ap (λ (x : Met). x ∷ tally) (same_Some q m at)
drop_at (q ∷ tally) (suc i) m at = drop_at tally i m at

-- one rule is met so many times more
pub record IsMore (to more : ℕ) (old new : List Met) (rule : ℕ) : Type 0 where
  pub rising : AreRising 0 new
  pub below : AreBelow to new
  pub counts : (j : ℕ) → count_in new j ≡ count_in old j + (if j == rule then more else 0)

module _ (to more rule : ℕ) (tally : List Met) (rising : AreRising 0 tally) (below : AreBelow to tally) (m : Met) (same : m.rule ≡ rule) (few : rule < to) where
  parted : (front old rest : List Met) → tally ≡ front ++ old → AreBelow rule front → AreRising (rule + 1) rest → AreBelow to rest
      → ((j : ℕ) → j ≢ rule → count_in old j ≡ count_in rest j) → m.count ≡ count_in tally rule + more → IsMore to more tally (front ++ m ∷ rest) rule
  parted front old rest parts first following last others count = record {
    rising = rising_front 0 rule front old (m ∷ rest) (subst (AreRising 0) parts rising) first (omega arith)
        (omega (arith, same), subst (λ (n : ℕ). AreRising (n + 1) rest) (sym same) following);
    below = below_join to front (m ∷ rest) (below_parts to front old (subst (AreBelow to) parts below)).0 (omega (arith, same, few), last);
    counts = λ j. by j (j == rule) refl;
  }
    where
      by : (j : ℕ) (b : Bool) → (j == rule) ≡ b → count_in (front ++ m ∷ rest) j ≡ count_in tally j + (if b then more else 0)
      by j true e =
          let here : j ≡ rule = eqb-true j rule e in
          let now = count_after front (m ∷ rest) rule j first (omega (arith, here)) ∙ count_here m rest j (same ∙ sym here) in
          now ∙ count ∙ ap (λ (n : ℕ). count_in tally n + more) (sym here)
      by j false e =
          let other : j ≢ rule = λ p. both_ways (j == rule) e (eq-eqb j rule p) in
          let now = count_front front (m ∷ rest) old j (count_other m rest j (λ p. other (sym p ∙ same)) ∙ sym (others j other)) in
          let before = ap (λ (t : List Met). count_in t j) parts in
          omega (arith, now, before)

  pub recorded_more : (i : ℕ) (q : Met) → IsPlaceOf tally rule i → slice_get tally i ≡ Some q → q.rule ≡ rule → m.count ≡ count_in tally rule + more
      → IsMore to more tally (set tally i m) rule
  recorded_more i q place at is count =
      let here = drop_at tally i q at in
      let rest = (subst (AreRising rule) here place.following).1 in
      let last = (below_parts to (take i tally) (q ∷ drop (suc i) tally) (subst (AreBelow to) (sym (take-append-drop i tally) ∙ ap (λ (t : List Met). take i tally ++ t) here) below)).1 in
      subst (λ (t : List Met). IsMore to more tally t rule) (sym (set_parts tally i m (slice_get_within tally i q at)))
      (parted (take i tally) (q ∷ drop (suc i) tally) (drop (suc i) tally) (sym (take-append-drop i tally) ∙ ap (λ (t : List Met). take i tally ++ t) here) place.before
      (subst (λ (n : ℕ). AreRising (n + 1) (drop (suc i) tally)) is rest) last.1
      (λ j other. count_other q (drop (suc i) tally) j (λ e. other (sym e ∙ is))) count)

  pub recorded_first : (i : ℕ) → IsPlaceOf tally rule i → AreRising (rule + 1) (drop i tally) → m.count ≡ count_in tally rule + more → IsMore to more tally (insert tally i m) rule
  recorded_first i place following count =
      let last = (below_parts to (take i tally) (drop i tally) (subst (AreBelow to) (sym (take-append-drop i tally)) below)).1 in
      parted (take i tally) (drop i tally) (drop i tally) (sym (take-append-drop i tally)) place.before following last (λ j other. refl) count

pub no_count : (tally : List Met) (rule i : ℕ) → IsPlaceOf tally rule i → AreRising (rule + 1) (drop i tally) → count_in tally rule ≡ 0
no_count tally rule i place following =
    ap (λ (t : List Met). count_in t rule) (sym (take-append-drop i tally)) ∙ count_after (take i tally) (drop i tally) rule rule place.before (omega arith)
    ∙ count_before rule (rule + 1) (drop i tally) following (omega arith)

-- where the rule isn't recorded at its place, only later ones follow
pub after_more : (tally : List Met) (place rule : ℕ) → AreRising rule (drop place tally) → ((m : Met) → slice_get tally place ≡ Some m → m.rule ≢ rule) → AreRising (rule + 1) (drop place tally)
after_more [] zero rule rising other = tt
after_more [] (suc place) rule rising other = tt
after_more (m ∷ tally) zero rule (above, rising) other = (omega (arith, above, other m refl), rising)
after_more (m ∷ tally) (suc place) rule rising other = after_more tally place rule rising other

pub room_for : (tally : List Met) (many rule place : ℕ) → AreRising 0 tally → AreBelow many tally → rule < many → IsPlaceOf tally rule place → AreRising (rule + 1) (drop place tally)
    → length tally < many
room_for tally many rule place rising below one is following =
    let none : 0 ≡ count_in tally rule + 0 = let e = no_count tally rule place is following in omega (arith, e) in
    let more = recorded_first many 0 rule tally rising below (never rule) refl one place is following none in
    let size = rising_size 0 many (insert tally place (never rule)) more.rising more.below (omega arith) in
    let longer = length-insert tally place (never rule) is.within in
    omega (arith, size, longer)

inserted_at : (tally : List Met) (i : ℕ) (m : Met) → i ≤ length tally → slice_get (insert tally i m) i ≡ Some m
inserted_at tally zero m le = refl
inserted_at [] (suc i) m le = absurd (omega (arith, le))
inserted_at (q ∷ tally) (suc i) m le = inserted_at tally i m (omega (arith, le))

-- the count of a rule that is found
pub found_count : (tally : List Met) (rule i : ℕ) (m : Met) → IsPlaceOf tally rule i → slice_get tally i ≡ Some m → m.rule ≡ rule → count_in tally rule ≡ m.count
found_count tally rule i m place at same =
    ap (λ (t : List Met). count_in t rule) (sym (take-append-drop i tally)) ∙ count_after (take i tally) (drop i tally) rule rule place.before (omega arith)
    ∙ ap (λ (t : List Met). count_in t rule) (drop_at tally i m at) ∙ count_here m (drop (suc i) tally) rule same

-- ---- the place of a rule

rising_at : (from i : ℕ) (tally : List Met) (m : Met) → AreRising from tally → slice_get tally i ≡ Some m → from ≤ m.rule
rising_at from i [] m rising at = absurd (none-some m at)
rising_at from zero (q ∷ tally) m (above, rising) at = subst (λ (x : Met). from ≤ x.rule) (same_Some q m at) above
rising_at from (suc i) (q ∷ tally) m (above, rising) at = let more = rising_at (q.rule + 1) i tally m rising at in omega (arith, above, more)

below_at : (from i : ℕ) (tally : List Met) (m : Met) → AreRising from tally → slice_get tally i ≡ Some m → AreBelow m.rule (take i tally)
below_at from i [] m rising at = absurd (none-some m at)
below_at from zero (q ∷ tally) m rising at = tt
below_at from (suc i) (q ∷ tally) m (above, rising) at =
    ((let more = rising_at (q.rule + 1) i tally m rising at in omega (arith, more)), below_at (q.rule + 1) i tally m rising at)

below_more : (less more : ℕ) (tally : List Met) → less ≤ more → AreBelow less tally → AreBelow more tally
below_more less more [] le below = tt
below_more less more (m ∷ tally) le (lt, below) = (omega (arith, lt, le), below_more less more tally le below)

pub place_here : (tally : List Met) (rule i : ℕ) (m : Met) → AreRising 0 tally → slice_get tally i ≡ Some m → m.rule ≡ rule → IsPlaceOf tally rule i
place_here tally rule i m rising at same = record {
  within = let lt = slice_get_within tally i m at in omega (arith, lt);
  before = subst (λ (n : ℕ). AreBelow n (take i tally)) same (below_at 0 i tally m rising at);
  following = subst (AreRising rule) (sym (drop_at tally i m at)) (omega (arith, same), (subst (AreRising 0) (drop_at tally i m at) (rising_drop i tally rising)).1);
}

pub place_end : (tally : List Met) (rule : ℕ) (m : Met) → AreRising 0 tally → slice_get tally (length tally - 1) ≡ Some m → m.rule < rule → IsPlaceOf tally rule (length tally)
place_end tally rule m rising at lt = record {
  within = omega arith;
  before = subst (AreBelow rule) (sym (take_all (length tally) tally (omega arith))) all_below;
  following = subst (AreRising rule) (sym (drop-length tally)) tt;
}
  where
    inside : length tally - 1 < length tally
    inside = slice_get_within tally (length tally - 1) m at

    last : drop (length tally - 1) tally ≡ m ∷ []
    last = drop_at tally (length tally - 1) m at
        ∙ ap (λ (t : List Met). m ∷ t) (ap (λ (n : ℕ). drop n tally) (let e : suc (length tally - 1) ≡ length tally = omega (arith, inside) in e) ∙ drop-length tally)

    all_below : AreBelow rule tally
    all_below = subst (AreBelow rule) (ap (λ (t : List Met). take (length tally - 1) tally ++ t) (sym last) ∙ take-append-drop (length tally - 1) tally)
        (below_join rule (take (length tally - 1) tally) (m ∷ []) (below_more m.rule rule (take (length tally - 1) tally) (omega (arith, lt)) (below_at 0 (length tally - 1) tally m rising at)) (lt, tt))

rising_least : (from : ℕ) (tally : List Met) → AreRising from tally → (j : ℕ) (d : Met) → j < length tally → from ≤ (get_or tally j d).rule
rising_least from [] rising j d lt = absurd (omega (arith, lt))
rising_least from (m ∷ tally) (above, rising) zero d lt = above
rising_least from (m ∷ tally) (above, rising) (suc j) d lt = let more = rising_least (m.rule + 1) tally rising j d (omega (arith, lt)) in omega (arith, above, more)

pub rising_sorted : (from : ℕ) (tally : List Met) → AreRising from tally → IsNonDecreasingBy (λ (m : Met). m.rule) tally
rising_sorted from [] rising i j d le lt = absurd (omega (arith, lt))
rising_sorted from (m ∷ tally) (above, rising) zero zero d le lt = omega arith
rising_sorted from (m ∷ tally) (above, rising) zero (suc j) d le lt = let more = rising_least (m.rule + 1) tally rising j d (omega (arith, lt)) in omega (arith, more)
rising_sorted from (m ∷ tally) (above, rising) (suc i) zero d le lt = absurd (omega (arith, le))
rising_sorted from (m ∷ tally) (above, rising) (suc i) (suc j) d le lt = rising_sorted (m.rule + 1) tally rising i j d (omega (arith, le)) (omega (arith, lt))

below_take : (tally : List Met) (n rule : ℕ) → ((k : ℕ) (d : Met) → k < n → (get_or tally k d).rule < rule) → AreBelow rule (take n tally)
below_take [] zero rule each = tt
below_take [] (suc n) rule each = tt
below_take (m ∷ tally) zero rule each = tt
below_take (m ∷ tally) (suc n) rule each = (each 0 m (omega arith), below_take tally n rule (λ k d lt. each (suc k) d (omega (arith, lt))))

rising_parted : (tally : List Met) (n rule from : ℕ) → AreRising from tally → ((d : Met) → n < length tally → rule ≤ (get_or tally n d).rule) → AreRising rule (drop n tally)
rising_parted [] zero rule from rising each = tt
rising_parted [] (suc n) rule from rising each = tt
rising_parted (m ∷ tally) zero rule from (above, rising) each = (each m (omega arith), rising)
rising_parted (m ∷ tally) (suc n) rule from (above, rising) each = rising_parted tally n rule (m.rule + 1) rising (λ d lt. each d (omega (arith, lt)))

pub place_parted : (tally : List Met) (rule i : ℕ) → AreRising 0 tally → i ≤ length tally
    → IsPartitionPoint (λ (m : Met). ltb m.rule rule ≡ true) (λ (m : Met). ltb m.rule rule ≡ false) tally i → IsPlaceOf tally rule i
place_parted tally rule i rising le point = record {
  within = le;
  before = below_take tally i rule (λ k d lt. ltb-true (get_or tally k d).rule rule (point.0 k d (omega arith) lt));
  following = rising_parted tally i rule 0 rising (λ d lt. ltb-false (get_or tally i d).rule rule (point.1 i d (omega arith) lt));
}

-- what is recorded from a rule on
pub same_from : (tally : List Met) (rule place i : ℕ) → IsPlaceOf tally rule place → rule ≤ i → count_in (take (length tally - place) (drop place tally)) i ≡ count_in tally i
same_from tally rule place i is le =
    let size = length-drop place tally in
    ap (λ (t : List Met). count_in t i) (take_all (length tally - place) (drop place tally) (omega (arith, size)))
    ∙ sym (count_after (take place tally) (drop place tally) rule i is.before le) ∙ ap (λ (t : List Met). count_in t i) (take-append-drop place tally)

pub rising_from : (tally : List Met) (place : ℕ) → AreRising 0 tally → AreRising 0 (take (length tally - place) (drop place tally))
rising_from tally place rising =
    let size = length-drop place tally in
    subst (AreRising 0) (sym (take_all (length tally - place) (drop place tally) (omega (arith, size)))) (rising_drop place tally rising)

-- ---- one after the other

module _ (tally : List Met) (index : ℕ) (m : Met) (at : slice_get tally index ≡ Some m) where
  next : drop (suc index) tally ≡ drop (index + 1) tally
  next = ap (λ (n : ℕ). drop n tally) (let e : suc index ≡ index + 1 = omega arith in e)

  pub count_next : (rule : ℕ) → m.rule ≢ rule → count_in (drop (index + 1) tally) rule ≡ count_in (drop index tally) rule
  count_next rule other =
      ap (λ (t : List Met). count_in t rule) (sym next) ∙ sym (count_other m (drop (suc index) tally) rule other) ∙ ap (λ (t : List Met). count_in t rule) (sym (drop_at tally index m at))

  pub count_first : (rule : ℕ) → m.rule ≡ rule → count_in (drop index tally) rule ≡ m.count
  count_first rule same = ap (λ (t : List Met). count_in t rule) (drop_at tally index m at) ∙ count_here m (drop (suc index) tally) rule same

  pub count_none : (rule : ℕ) → AreRising 0 tally → rule < m.rule → count_in (drop index tally) rule ≡ 0
  count_none rule rising lt =
      let parts = subst (AreRising 0) (drop_at tally index m at) (rising_drop index tally rising) in
      ap (λ (t : List Met). count_in t rule) (drop_at tally index m at) ∙ count_before rule m.rule (m ∷ drop (suc index) tally) (omega arith, parts.1) lt

pub count_end : (tally : List Met) (index rule : ℕ) → length tally ≤ index → count_in (drop index tally) rule ≡ 0
count_end [] zero rule le = refl
count_end [] (suc index) rule le = refl
count_end (m ∷ tally) zero rule le = absurd (omega (arith, le))
count_end (m ∷ tally) (suc index) rule le = count_end tally index rule (omega (arith, le))

-- ---- a part of a list that is written

pub set_from : (tallies : List Met) (base i : ℕ) (m : Met) → base ≤ length tallies → set tallies (base + i) m ≡ take base tallies ++ set (drop base tallies) i m
set_from tallies zero i m le = ap (λ (n : ℕ). set tallies n m) (let e : 0 + i ≡ i = omega arith in e)
set_from [] (suc base) i m le = absurd (omega (arith, le))
set_from (q ∷ tallies) (suc base) i m le =
    ap (λ (n : ℕ). set (q ∷ tallies) n m) (let e : suc base + i ≡ suc (base + i) = omega arith in e) ∙ ap (λ (t : List Met). q ∷ t) (set_from tallies base i m (omega (arith, le)))

pub insert_from : (tallies : List Met) (base i : ℕ) (m : Met) → base ≤ length tallies → insert tallies (base + i) m ≡ take base tallies ++ insert (drop base tallies) i m
insert_from tallies zero i m le = ap (λ (n : ℕ). insert tallies n m) (let e : 0 + i ≡ i = omega arith in e)
insert_from [] (suc base) i m le = absurd (omega (arith, le))
insert_from (q ∷ tallies) (suc base) i m le =
    ap (λ (n : ℕ). insert (q ∷ tallies) n m) (let e : suc base + i ≡ suc (base + i) = omega arith in e) ∙ ap (λ (t : List Met). q ∷ t) (insert_from tallies base i m (omega (arith, le)))

pub get_from : (tallies : List Met) (base i : ℕ) → slice_get (drop base tallies) i ≡ slice_get tallies (base + i)
get_from tallies zero i = ap (λ (n : ℕ). slice_get tallies n) (let e : i ≡ 0 + i = omega arith in e)
get_from [] (suc base) i = refl
get_from (q ∷ tallies) (suc base) i = get_from tallies base i ∙ ap (λ (n : ℕ). slice_get (q ∷ tallies) n) (let e : suc (base + i) ≡ suc base + i = omega arith in e)

-- what precedes a part that is written, and the part
pub written_front : (tallies tally : List Met) (base : ℕ) → base ≤ length tallies → take base (take base tallies ++ tally) ≡ take base tallies
written_front tallies tally base le = ap (λ (n : ℕ). take n (take base tallies ++ tally)) (sym (length-take-le base tallies le)) ∙ take-append_seam (take base tallies) tally

pub written_part : (tallies tally : List Met) (base : ℕ) → base ≤ length tallies → drop base (take base tallies ++ tally) ≡ tally
written_part tallies tally base le = ap (λ (n : ℕ). drop n (take base tallies ++ tally)) (sym (length-take-le base tallies le)) ∙ drop-append_seam (take base tallies) tally

-- a slice from a place on
pub slice_from : (all tallies : List Met) (base : ℕ) → all ≡ tallies → take (length all - base) (drop base all) ≡ drop base tallies
slice_from all tallies base e =
    let size = length-drop base all in take_all (length all - base) (drop base all) (omega (arith, size)) ∙ ap (λ (t : List Met). drop base t) e

-- ---- a rule that is recorded

none_more : (b : Bool) (n : ℕ) → n + (if b then 0 else 0) ≡ n
none_more true n = omega arith
none_more false n = omega arith

pub occurs_recorded : (tallies : List Met) (capacity base many rule i : ℕ) (m : Met) → HasPlaceFor tallies capacity base many rule → slice_get (drop base tallies) i ≡ Some m → m.rule ≡ rule
    → IsRecorded tallies tallies base many rule (base + i)
occurs_recorded tallies capacity base many rule i m h at same = record {
  following = i;
  is_place = refl;
  front = refl;
  rising = h.rising;
  below = h.below;
  counts = λ j. refl;
  place_of = place_here (drop base tallies) rule i m h.rising at same;
  recorded = m;
  at = at;
  same = same;
}

pub newly_recorded : (tallies new : List Met) (capacity base many rule i : ℕ) → HasPlaceFor tallies capacity base many rule → IsPlaceOf (drop base tallies) rule i
    → AreRising (rule + 1) (drop i (drop base tallies)) → new ≡ insert tallies (base + i) (never rule) → IsRecorded tallies new base many rule (base + i)
newly_recorded tallies new capacity base many rule i h place following is =
    let tally = drop base tallies in
    let parts = is ∙ insert_from tallies base i (never rule) h.low in
    let part = ap (λ (t : List Met). drop base t) parts ∙ written_part tallies (insert tally i (never rule)) base h.low in
    let none : 0 ≡ count_in tally rule + 0 = let e = no_count tally rule i place following in omega (arith, e) in
    let more = recorded_first many 0 rule tally h.rising h.below (never rule) refl h.one i place following none in
    let at = inserted_at tally i (never rule) place.within in
    record {
      following = i;
      is_place = refl;
      front = ap (λ (t : List Met). take base t) parts ∙ written_front tallies (insert tally i (never rule)) base h.low;
      rising = subst (AreRising 0) (sym part) more.rising;
      below = subst (AreBelow many) (sym part) more.below;
      counts = λ j. ap (λ (t : List Met). count_in t j) part ∙ more.counts j ∙ none_more (j == rule) (count_in tally j);
      place_of = subst (λ (t : List Met). IsPlaceOf t rule i) (sym part) (place_here (insert tally i (never rule)) rule i (never rule) more.rising at refl);
      recorded = never rule;
      at = ap (λ (t : List Met). slice_get t i) part ∙ at;
      same = refl;
    }
