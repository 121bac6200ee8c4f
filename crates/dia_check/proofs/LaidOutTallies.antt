-- What a tally records once all the rules of its level are laid out, and how they are laid out from the back.
use Rattle.std.proofs.Common.{◌≡◌, ◌≢◌, ℕ, zero, suc, ◌+◌, ◌-◌, ◌<◌, ◌≤◌, Bool, true, false, List, [], ◌∷◌, ◌++◌, length, take, drop, set, Some, refl, sym, ap, subst, ◌∙◌, length-append, arith}
use Rattle.std.specs.Prelude.{◌==◌, if◌then◌else◌, slice_get}
use Rattle.std.proofs.Math.ListN.{length-set}
use Rattle.std.proofs.Math.Seq.{drop-length, take-append_seam}
use Rattle.std.proofs.Math.Dec.{ltb}
use Rattle.std.proofs.lemmas.Bool.{both_ways, eq-eqb, eqb-true, ltb-true, ltb-false}
use Rattle.std.proofs.lemmas.List.{take-append-drop, take_all, length-drop, length-take-le, take-append-le, drop-append-le, take-set-le, drop-set}
use Rattle.std.proofs.lemmas.Option.{none-some, same_Some}
use Rattle.dia_check.specs.declared.open_levels.tally.Met.{Met}
use Rattle.dia_check.specs.Tallies.{count_in, unmet, AreRising, AreBelow, HasPlaceFor, IsPlaceOf, IsRecorded}
use Rattle.dia_check.specs.LaidOutTallies.{laid_out}
use Rattle.dia_check.proofs.Tallies.{count_here, count_other, count_before, no_count, place_here, rising_size, set_from, written_front, written_part}

-- ---- what it records

laid_rising : (tally : List Met) (from many : ℕ) → AreRising from (laid_out tally from many)
laid_rising tally from zero = tt
laid_rising tally from (suc many) = (omega arith, laid_rising tally (from + 1) many)

laid_below : (tally : List Met) (from many to : ℕ) → from + many ≤ to → AreBelow to (laid_out tally from many)
laid_below tally from zero to le = tt
laid_below tally from (suc many) to le = (omega (arith, le), laid_below tally (from + 1) many to (omega (arith, le)))

laid_at : (tally : List Met) (from many i : ℕ) → i < many → slice_get (laid_out tally from many) i ≡ Some (record { rule = from + i; count = count_in tally (from + i) })
laid_at tally from zero i lt = absurd (omega (arith, lt))
laid_at tally from (suc many) zero lt = ap (λ (n : ℕ). Some (record { rule = n; count = count_in tally n })) (let e : from ≡ from + 0 = omega arith in e)
laid_at tally from (suc many) (suc i) lt =
    laid_at tally (from + 1) many i (omega (arith, lt))
    ∙ ap (λ (n : ℕ). Some (record { rule = n; count = count_in tally n })) (let e : from + 1 + i ≡ from + suc i = omega arith in e)

laid_inside : (tally : List Met) (from many rule : ℕ) → from ≤ rule → rule < from + many → count_in (laid_out tally from many) rule ≡ count_in tally rule
laid_inside tally from zero rule le lt = absurd (omega (arith, le, lt))
laid_inside tally from (suc many) rule le lt = by (from == rule) refl (λ later. laid_inside tally (from + 1) many rule later (omega (arith, lt)))
  where
    by : (b : Bool) → (from == rule) ≡ b → (from + 1 ≤ rule → count_in (laid_out tally (from + 1) many) rule ≡ count_in tally rule)
        → count_in (laid_out tally from (suc many)) rule ≡ count_in tally rule
    by true e rest =
        let here = eqb-true from rule e in
        count_here (record { rule = from; count = count_in tally from }) (laid_out tally (from + 1) many) rule here ∙ ap (λ (n : ℕ). count_in tally n) here
    by false e rest =
        let other : from ≢ rule = λ p. both_ways (from == rule) e (eq-eqb from rule p) in
        count_other (record { rule = from; count = count_in tally from }) (laid_out tally (from + 1) many) rule other ∙ rest (omega (arith, le, other))

count_beyond : (tally : List Met) (to rule : ℕ) → AreBelow to tally → to ≤ rule → count_in tally rule ≡ 0
count_beyond [] to rule below le = refl
count_beyond (m ∷ tally) to rule (lt, below) le = count_other m tally rule (λ e. omega (arith, e, lt, le)) ∙ count_beyond tally to rule below le

laid_counts : (tally : List Met) (many rule : ℕ) → AreBelow many tally → count_in (laid_out tally 0 many) rule ≡ count_in tally rule
laid_counts tally many rule below = by (ltb rule many) refl
  where
    by : (b : Bool) → ltb rule many ≡ b → count_in (laid_out tally 0 many) rule ≡ count_in tally rule
    by true e = let lt = ltb-true rule many e in laid_inside tally 0 many rule (omega arith) (omega (arith, lt))
    by false e =
        let le = ltb-false rule many e in
        count_beyond (laid_out tally 0 many) many rule (laid_below tally 0 many many (omega arith)) le ∙ sym (count_beyond tally many rule below le)

-- each rule is recorded at its own place
pub all_recorded : (old new : List Met) (capacity base many rule : ℕ) → HasPlaceFor old capacity base many rule → take base new ≡ take base old
    → drop base new ≡ laid_out (drop base old) 0 many → IsRecorded old new base many rule (base + rule)
all_recorded old new capacity base many rule h front is =
    let tally = drop base old in
    let rising = laid_rising tally 0 many in
    let at = laid_at tally 0 many rule h.one in
    let same : 0 + rule ≡ rule = omega arith in
    record {
      following = rule;
      is_place = refl;
      front = front;
      rising = subst (AreRising 0) (sym is) rising;
      below = subst (AreBelow many) (sym is) (laid_below tally 0 many many (omega arith));
      counts = λ j. ap (λ (t : List Met). count_in t j) is ∙ laid_counts tally many j h.below;
      place_of = subst (λ (t : List Met). IsPlaceOf t rule rule) (sym is) (place_here (laid_out tally 0 many) rule rule _ rising at same);
      recorded = record { rule = 0 + rule; count = count_in tally (0 + rule) };
      at = ap (λ (t : List Met). slice_get t rule) is ∙ at;
      same = same;
    }

-- ---- from the back

-- the rules from one on are laid out, and the first ones are where the tally recorded them
pub record AreLaidOutFrom (tally now : List Met) (many from left : ℕ) : Type 0 where
  pub size : length now ≡ many
  pub place : IsPlaceOf tally from left
  pub front : take left now ≡ take left tally
  pub following : drop from now ≡ laid_out tally from (many - from)

rising_join : (from to : ℕ) (front tally : List Met) → AreRising from front → AreBelow to front → from ≤ to → AreRising to tally → AreRising from (front ++ tally)
rising_join from to [] [] rising below le more = tt
rising_join from to [] (m ∷ tally) rising below le (above, more) = (omega (arith, le, above), more)
rising_join from to (m ∷ front) tally (above, rising) (lt, below) le more = (above, rising_join (m.rule + 1) to front tally rising below (omega (arith, lt)) more)

count_joined : (front tally : List Met) (rule : ℕ) → AreRising (rule + 1) tally → count_in (front ++ tally) rule ≡ count_in front rule
count_joined [] tally rule rising = count_before rule (rule + 1) tally rising (omega arith)
count_joined (m ∷ front) tally rule rising = ap (λ (n : ℕ). if m.rule == rule then m.count else n) (count_joined front tally rule rising)

rising_take : (from n : ℕ) (tally : List Met) → AreRising from tally → AreRising from (take n tally)
rising_take from zero tally rising = tt
rising_take from (suc n) [] rising = tt
rising_take from (suc n) (m ∷ tally) (above, rising) = (above, rising_take (m.rule + 1) n tally rising)

below_drop : (to n : ℕ) (tally : List Met) → AreBelow to tally → AreBelow to (drop n tally)
below_drop to zero tally below = below
below_drop to (suc n) [] below = tt
below_drop to (suc n) (m ∷ tally) (lt, below) = below_drop to n tally below

take_less : (less more : ℕ) (tally : List Met) → less ≤ more → take less (take more tally) ≡ take less tally
take_less zero more tally le = refl
take_less (suc less) zero tally le = absurd (omega (arith, le))
take_less (suc less) (suc more) [] le = refl
take_less (suc less) (suc more) (m ∷ tally) le = ap (λ (t : List Met). m ∷ t) (take_less less more tally (omega (arith, le)))

drop_parts : (less more : ℕ) (tally : List Met) → less ≤ more → drop less (take more tally) ++ drop more tally ≡ drop less tally
drop_parts zero more tally le = take-append-drop more tally
drop_parts (suc less) zero tally le = absurd (omega (arith, le))
drop_parts (suc less) (suc more) [] le = refl
drop_parts (suc less) (suc more) (m ∷ tally) le = drop_parts less more tally (omega (arith, le))

pub none_laid_out : (tally more : List Met) (many : ℕ) → AreBelow many tally → length tally + length more ≡ many → AreLaidOutFrom tally (tally ++ more) many many (length tally)
none_laid_out tally more many below size =
    let all = length-append tally more in
    record {
      size = all ∙ size;
      place = record {
        within = omega arith;
        before = subst (AreBelow many) (sym (take_all (length tally) tally (omega arith))) below;
        following = subst (AreRising many) (sym (drop-length tally)) tt;
      };
      front = take-append_seam tally more ∙ sym (take_all (length tally) tally (omega arith));
      following = ap (λ (n : ℕ). drop n (tally ++ more)) (sym (all ∙ size)) ∙ drop-length (tally ++ more)
          ∙ ap (λ (n : ℕ). laid_out tally many n) (let e : 0 ≡ many - many = omega arith in e);
    }

pub one_laid_out : (tally now : List Met) (many from left before count : ℕ) → AreRising 0 tally → AreLaidOutFrom tally now many (from + 1) left → from < many
    → IsPlaceOf (take left tally) from before → count ≡ count_in (take left tally) from
    → AreLaidOutFrom tally (set now from (record { rule = from; count = count })) many from before
one_laid_out tally now many from left before count rising h lt place is = record {
  size = length-set now from m ∙ h.size;
  place = record {
    within = omega (arith, place.within, left_size, h.place.within);
    before = first;
    following = subst (AreRising from) (drop_parts before left tally few)
        (rising_join from (from + 1) (drop before (take left tally)) (drop left tally) place.following (below_drop (from + 1) before (take left tally) h.place.before) (omega arith) h.place.following);
  };
  front = take-set-le before now from m early ∙ sym (take_less before left now few) ∙ ap (λ (t : List Met). take before t) h.front ∙ take_less before left tally few;
  following = drop-set now from m (omega (arith, lt, h.size)) ∙ ap (λ (t : List Met). m ∷ t) h.following
      ∙ ap (λ (n : ℕ). record { rule = from; count = n } ∷ laid_out tally (from + 1) (many - (from + 1))) recorded
      ∙ ap (λ (n : ℕ). laid_out tally from n) (let e : suc (many - (from + 1)) ≡ many - from = omega (arith, lt) in e);
}
  where
    m : Met
    m = record { rule = from; count = count }

    left_size : length (take left tally) ≡ left
    left_size = length-take-le left tally h.place.within

    few : before ≤ left
    few = omega (arith, place.within, left_size)

    first : AreBelow from (take before tally)
    first = subst (AreBelow from) (take_less before left tally few) place.before

    early : before ≤ from
    early =
        let most = rising_size 0 from (take before tally) (rising_take 0 before tally rising) first (omega arith) in
        let size = length-take-le before tally (omega (arith, few, h.place.within)) in omega (arith, most, size)

    recorded : count ≡ count_in tally from
    recorded = is ∙ sym (count_joined (take left tally) (drop left tally) from h.place.following) ∙ ap (λ (t : List Met). count_in t from) (take-append-drop left tally)

pub all_laid_out : (tally now : List Met) (many left : ℕ) → AreLaidOutFrom tally now many 0 left → now ≡ laid_out tally 0 many
all_laid_out tally now many left h = h.following ∙ ap (λ (n : ℕ). laid_out tally 0 n) (let e : many - 0 ≡ many = omega arith in e)

-- ---- the last rule that is recorded

below_at : (to i : ℕ) (tally : List Met) (m : Met) → AreBelow to tally → slice_get tally i ≡ Some m → m.rule < to
below_at to i [] m below at = absurd (none-some m at)
below_at to zero (q ∷ tally) m (lt, below) at = subst (λ (x : Met). x.rule < to) (same_Some q m at) lt
below_at to (suc i) (q ∷ tally) m (lt, below) at = below_at to i tally m below at

pub last_before : (tally : List Met) (rule i : ℕ) (m : Met) → AreBelow (rule + 1) tally → slice_get tally i ≡ Some m → m.rule ≢ rule → m.rule < rule
last_before tally rule i m below at other = let lt = below_at (rule + 1) i tally m below at in omega (arith, lt, other)

pub no_count_end : (tally : List Met) (rule : ℕ) → IsPlaceOf tally rule (length tally) → count_in tally rule ≡ 0
no_count_end tally rule place = no_count tally rule (length tally) place (subst (AreRising (rule + 1)) (sym (drop-length tally)) tt)

-- ---- in a list that holds the tally from a place on

unmet_size : (from many : ℕ) → length (unmet from many) ≡ many
unmet_size from zero = refl
unmet_size from (suc many) = ap (λ (n : ℕ). suc n) (unmet_size (from + 1) many)

pub recorded_few : (items : List Met) (base many len : ℕ) → AreRising 0 (drop base items) → AreBelow many (drop base items) → len ≡ length items → len - base ≤ many
recorded_few items base many len rising below is =
    let most = rising_size 0 many (drop base items) rising below (omega arith) in let size = length-drop base items in omega (arith, most, size, is)

pub front_at_first : (items new : List Met) (base more : ℕ) → base ≤ length items → new ≡ items ++ unmet 0 more → take base new ≡ take base items
front_at_first items new base more low is = ap (λ (t : List Met). take base t) is ∙ take-append-le base items (unmet 0 more) low

pub laid_out_at_first : (items new : List Met) (base many len : ℕ) → AreRising 0 (drop base items) → AreBelow many (drop base items) → base ≤ len → len ≡ length items
    → new ≡ items ++ unmet 0 (many - (len - base)) → AreLaidOutFrom (drop base items) (drop base new) many many (len - base)
laid_out_at_first items new base many len rising below low size is =
    let few = recorded_few items base many len rising below size in
    let more = unmet 0 (many - (len - base)) in
    let recorded = length-drop base items in
    let unrecorded = unmet_size 0 (many - (len - base)) in
    let part = ap (λ (t : List Met). drop base t) is ∙ drop-append-le base items more (omega (arith, low, size)) in
    let e : length (drop base items) ≡ len - base = omega (arith, recorded, size) in
    subst (λ (n : ℕ). AreLaidOutFrom (drop base items) (drop base new) many many n) e
    (subst (λ (t : List Met). AreLaidOutFrom (drop base items) t many many (length (drop base items))) (sym part)
    (none_laid_out (drop base items) more many below (omega (arith, recorded, unrecorded, few, size))))

pub low_enough : (tally items : List Met) (base many from left : ℕ) → AreLaidOutFrom tally (drop base items) many from left → 0 < many → base + many ≡ length items
low_enough tally items base many from left h some = let size = length-drop base items in let is = h.size in omega (arith, size, is, some)

pub left_few : (tally now : List Met) (many from left : ℕ) → AreRising 0 tally → AreBelow many tally → AreLaidOutFrom tally now many from left → left ≤ many
left_few tally now many from left rising below h = let most = rising_size 0 many tally rising below (omega arith) in let within = h.place.within in omega (arith, most, within)

pub front_slice : (tally all items : List Met) (base many from left : ℕ) → AreLaidOutFrom tally (drop base items) many from left → all ≡ items
    → take (base + left - base) (drop base all) ≡ take left tally
front_slice tally all items base many from left h is =
    ap (λ (n : ℕ). take n (drop base all)) (let e : base + left - base ≡ left = omega arith in e) ∙ ap (λ (t : List Met). take left (drop base t)) is ∙ h.front

pub front_rising : (tally now : List Met) (many from left : ℕ) → AreRising 0 tally → AreLaidOutFrom tally now many from left → AreRising 0 (take left tally)
front_rising tally now many from left rising h = rising_take 0 left tally rising

-- one rule more
pub front_further : (items new : List Met) (base i : ℕ) (m : Met) → base ≤ length items → new ≡ set items (base + i) m → take base new ≡ take base items
front_further items new base i m low is =
    ap (λ (t : List Met). take base t) (is ∙ set_from items base i m low) ∙ written_front items (set (drop base items) i m) base low

pub laid_out_further : (tally items new slice : List Met) (base many from left before count i : ℕ) → AreRising 0 tally → AreLaidOutFrom tally (drop base items) many from left
    → base ≤ length items → from ≡ i + 1 → i < many → slice ≡ take left tally → IsPlaceOf slice i before → count ≡ count_in slice i
    → new ≡ set items (base + i) (record { rule = i; count = count }) → AreLaidOutFrom tally (drop base new) many i before
laid_out_further tally items new slice base many from left before count i rising h low next lt same place counted is =
    let m : Met = record { rule = i; count = count } in
    let part = ap (λ (t : List Met). drop base t) (is ∙ set_from items base i m low) ∙ written_part items (set (drop base items) i m) base low in
    let h_next = subst (λ (n : ℕ). AreLaidOutFrom tally (drop base items) many n left) next h in
    subst (λ (t : List Met). AreLaidOutFrom tally t many i before) (sym part)
    (one_laid_out tally (drop base items) many i left before count rising h_next lt (subst (λ (t : List Met). IsPlaceOf t i before) same place)
    (counted ∙ ap (λ (t : List Met). count_in t i) same))
