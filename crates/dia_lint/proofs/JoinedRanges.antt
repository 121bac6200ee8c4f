-- Ranges that lie apart, as ranges are taken out, joined and put in.
use Rattle.std.proofs.Common.{◌≡◌, ℕ, ◌+◌, ◌<◌, ◌≤◌, true, false, List, [], ◌∷◌, ◌++◌, length, Option, Some, None, refl, sym, ap, subst, ◌∙◌, arith, inl, inr, zero, suc, length-append}
use Rattle.std.specs.Prelude.{◌⊎◌, ◌↔◌, min, max, slice_get, IsSome}
use Rattle.std.specs.BTreeMap.{BTreeMap, UpdatesBy, get, is_at}
use Rattle.std.specs.Ordering.{nat_cmp}
use Rattle.std.proofs.lemmas.Bool.{cases_lt}
use Rattle.std.proofs.lemmas.Bool.Decides.{nat_tests}
use Rattle.std.proofs.lemmas.Option.{none-some, same_Some}
use Rattle.dia_data.specs.Leaf.{IsWithin}
use Rattle.dia_lint.specs.Overlaps.{AreApart, AreJoined, AreTwice, Gains, Has, IsBefore, IsClear, IsLeastOf, IsOverlapping, IsTwice}

-- at each number but one the new ranges are the old ones
abbrev pub Differ : BTreeMap ℕ ℕ → ℕ → Option ℕ → BTreeMap ℕ ℕ → Type 0
Differ old at there new = (get nat_cmp new at ≡ there) × ((high : ℕ) → (high ≡ at → ⊥) → get nat_cmp new high ≡ get nat_cmp old high)

-- ---- a range is taken out

pub same_or : (a b : ℕ) → (a ≡ b) ⊎ (a ≡ b → ⊥)
same_or a b = by (cases_lt a b) (cases_lt b a)
  where
    by : (a < b) ⊎ (b ≤ a) → (b < a) ⊎ (a ≤ b) → (a ≡ b) ⊎ (a ≡ b → ⊥)
    by (inl lt) other = inr (λ e. omega (arith, lt, e))
    by (inr le) (inl lt) = inr (λ e. omega (arith, lt, e))
    by (inr le) (inr ge) = inl (omega (arith, le, ge))

module _ (old new : BTreeMap ℕ ℕ) (last : ℕ) (gone : Differ old last None new) where
  stays : (high low : ℕ) → get nat_cmp new high ≡ Some low → (high ≡ last → ⊥) × (get nat_cmp old high ≡ Some low)
  stays high low at =
      let apart : high ≡ last → ⊥ = λ e. none-some low (sym gone.0 ∙ ap (get nat_cmp new) (sym e) ∙ at) in
      (apart, sym (gone.1 high apart) ∙ at)

  taken_apart : AreApart old → AreApart new
  taken_apart are = record {
    filled = λ high low at. are.filled high low (stays high low at).1;
    apart = λ a b low some at lt. are.apart a b low (some_old a some) (stays b low at).1 lt;
  }
    where
      some_old : (a : ℕ) → IsSome (get nat_cmp new a) → IsSome (get nat_cmp old a)
      some_old a some = by (get nat_cmp new a) refl some
        where
          by : (o : Option ℕ) → get nat_cmp new a ≡ o → IsSome o → IsSome (get nat_cmp old a)
          by None e h = absurd (let f : false ≡ true = h in cc)
          by (Some low) e h = subst (λ (o : Option ℕ). IsSome o) (sym (stays a low e).1) refl

  -- the numbers are those of what is left and of the range
  taken_has : (first : ℕ) → get nat_cmp old last ≡ Some first → (n : ℕ) → Has old n → Has new n ⊎ IsWithin n (first, last)
  taken_has first there n (high, low, at, ge, le) = by (same_or high last)
    where
      by : (high ≡ last) ⊎ (high ≡ last → ⊥) → Has new n ⊎ IsWithin n (first, last)
      by (inl e) =
          let low_is : low ≡ first = same_Some low first (sym at ∙ ap (get nat_cmp old) e ∙ there) in
          inr (omega (arith, low_is, ge), omega (arith, e, le))
      by (inr apart) = inl (high, low, gone.1 high apart ∙ at, ge, le)

  left_has : (n : ℕ) → Has new n → Has old n
  left_has n (high, low, at, ge, le) = (high, low, (stays high low at).1, ge, le)

-- ---- two ranges that overlap

within_both : (n first last first' last' f l : ℕ) → f ≡ min first first' → l ≡ max last last' → first ≤ last' → first' ≤ last → f ≤ n → n ≤ l → IsWithin n (first, last) ⊎ IsWithin n (first', last')
within_both n first last first' last' f l least most over over' ge le = by (cases_lt n first) (cases_lt last n)
  where
    by : (n < first) ⊎ (first ≤ n) → (last < n) ⊎ (n ≤ last) → IsWithin n (first, last) ⊎ IsWithin n (first', last')
    by (inl lt) other = inr (omega (arith, least, ge, lt), omega (arith, lt, over))
    by (inr own) (inl lt) = inr (omega (arith, over', lt), omega (arith, most, le, lt))
    by (inr own) (inr own') = inl (own, own')

pub joins_more : (start : BTreeMap ℕ ℕ) (range : ℕ × ℕ) (old new : BTreeMap ℕ ℕ) (first last first' last' f l : ℕ) → AreJoined start range old (first, last)
    → IsOverlapping old (first, last) (first', last')
    → Differ old last' None new → f ≡ min first first' → l ≡ max last last' → AreJoined start range new (f, l)
joins_more start range old new first last first' last' f l joined over gone least most = record {
  apart = taken_apart old new last' gone joined.apart;
  filled = omega (arith, least, most, joined.filled);
  numbers = λ n. (
    λ h. to n h,
    λ h. from n ((joined.numbers n).1 h),
  );
}
  where
    to : (n : ℕ) → Has new n ⊎ IsWithin n (f, l) → Has start n ⊎ IsWithin n range
    to n (inl has) = (joined.numbers n).0 (inl (left_has old new last' gone n has))
    to n (inr within) = by (within_both n first last first' last' f l least most over.1 over.2 within.0 within.1)
      where
        by : IsWithin n (first, last) ⊎ IsWithin n (first', last') → Has start n ⊎ IsWithin n range
        by (inl own) = (joined.numbers n).0 (inr own)
        by (inr own) = (joined.numbers n).0 (inl (last', first', over.0, own.0, own.1))

    from : (n : ℕ) → Has old n ⊎ IsWithin n (first, last) → Has new n ⊎ IsWithin n (f, l)
    from n (inl has) = by (taken_has old new last' gone first' over.0 n has)
      where
        by : Has new n ⊎ IsWithin n (first', last') → Has new n ⊎ IsWithin n (f, l)
        by (inl left) = inl left
        by (inr own) = inr (omega (arith, least, own.0), omega (arith, most, own.1))
    from n (inr own) = inr (omega (arith, least, own.0), omega (arith, most, own.1))

-- ---- a range that is clear of the others is put in

pub gains_joined : (start : BTreeMap ℕ ℕ) (range : ℕ × ℕ) (mid new : BTreeMap ℕ ℕ) (first last : ℕ) → AreJoined start range mid (first, last) → IsClear mid (first, last)
    → Differ mid last (Some first) new → Gains start range new
gains_joined start range mid new first last joined clear put = λ n. (λ h. (joined.numbers n).0 (to n h), λ h. from n ((joined.numbers n).1 h))
  where
    to : (n : ℕ) → Has new n → Has mid n ⊎ IsWithin n (first, last)
    to n (high, low, at, ge, le) = by (same_or high last)
      where
        by : (high ≡ last) ⊎ (high ≡ last → ⊥) → Has mid n ⊎ IsWithin n (first, last)
        by (inl e) =
            let low_is : low ≡ first = same_Some low first (sym at ∙ ap (get nat_cmp new) e ∙ put.0) in
            inr (omega (arith, low_is, ge), omega (arith, e, le))
        by (inr apart) = inl (high, low, sym (put.1 high apart) ∙ at, ge, le)

    from : (n : ℕ) → Has mid n ⊎ IsWithin n (first, last) → Has new n
    from n (inr own) = (last, first, put.0, own.0, own.1)
    from n (inl (high, low, at, ge, le)) = (high, low, put.1 high absent ∙ at, ge, le)
      where
        absent : high ≡ last → ⊥
        absent e = by (clear high low at) (joined.apart.filled high low at)
          where
            by : (high < first) ⊎ (last < low) → low ≤ high → ⊥
            by (inl lt) filled = omega (arith, e, lt, joined.filled)
            by (inr lt) filled = omega (arith, e, lt, filled)

-- ---- one range more of a list

pub at_push : {X : Type 0} (xs : List X) (x : X) (i : ℕ) (y : X) → slice_get (xs ++ x ∷ []) i ≡ Some y → (slice_get xs i ≡ Some y) ⊎ ((i ≡ length xs) × (x ≡ y))
at_push [] x zero y at = inr (refl, same_Some x y at)
at_push [] x (suc i) y at = absurd (none-some y at)
at_push (z ∷ xs) x zero y at = inl at
at_push (z ∷ xs) x (suc i) y at = by (at_push xs x i y at)
  where
    by : (slice_get xs i ≡ Some y) ⊎ ((i ≡ length xs) × (x ≡ y)) → (slice_get xs i ≡ Some y) ⊎ ((suc i ≡ suc (length xs)) × (x ≡ y))
    by (inl h) = inl h
    by (inr (e, same)) = inr (ap suc e, same)

least_same : (P Q : ℕ → Type 0) → ((n : ℕ) → P n → Q n) → ((n : ℕ) → Q n → P n) → (least : Option ℕ) → IsLeastOf P least → IsLeastOf Q least
least_same P Q to from None none = λ n q. none n (from n q)
least_same P Q to from (Some n) is = (to n is.0, λ m q. is.1 m (from m q))

pub twice_more : (list : List (ℕ × ℕ)) (i : ℕ) (low high : ℕ) (before : BTreeMap ℕ ℕ) (numbers new : List (Option ℕ)) (least : Option ℕ) → slice_get list i ≡ Some (low, high)
    → AreTwice list i numbers → ((n : ℕ) → Has before n ↔ IsBefore list i n) → IsLeastOf (λ n. IsWithin n (low, high) × Has before n) least → new ≡ numbers ++ least ∷ [] → AreTwice list (i + 1) new
twice_more list i low high before numbers new least at are has is same = record {
  length = ap length same ∙ length-push numbers ∙ ap (λ (k : ℕ). k + 1) are.length;
  each = λ place o there. by place o (at_push numbers least place o (subst (λ (xs : List (Option ℕ)). slice_get xs place ≡ Some o) same there));
}
  where
    length-push : (xs : List (Option ℕ)) → length (xs ++ least ∷ []) ≡ length xs + 1
    length-push xs = simp length-append refl

    own : IsLeastOf (IsTwice list i) least
    own = least_same (λ n. IsWithin n (low, high) × Has before n) (IsTwice list i)
        (λ n h. ((low, high), at, h.0, (has n).0 h.1))
        (λ n (range, there, within, ahead). (let e : range ≡ (low, high) = same_Some range (low, high) (sym there ∙ at) in subst (IsWithin n) e within, (has n).1 ahead))
        least is

    by : (place : ℕ) (o : Option ℕ) → (slice_get numbers place ≡ Some o) ⊎ ((place ≡ length numbers) × (least ≡ o)) → IsLeastOf (IsTwice list place) o
    by place o (inl there) = are.each place o there
    by place o (inr (e, same)) = subst (λ (k : ℕ). IsLeastOf (IsTwice list k) o) (sym (e ∙ are.length)) (subst (IsLeastOf (IsTwice list i)) same own)

pub before_more : (list : List (ℕ × ℕ)) (i : ℕ) (low high : ℕ) (old new : BTreeMap ℕ ℕ) → slice_get list i ≡ Some (low, high) → ((n : ℕ) → Has old n ↔ IsBefore list i n) → Gains old (low, high) new
    → (n : ℕ) → Has new n ↔ IsBefore list (i + 1) n
before_more list i low high old new at has gains n = (λ h. to ((gains n).0 h), λ (j, range, lt, there, within). from j range there within (cases_lt j i) lt)
  where
    to : Has old n ⊎ IsWithin n (low, high) → IsBefore list (i + 1) n
    to (inl h) = let (j, range, lt, there, within) = (has n).0 h in (j, range, omega (arith, lt), there, within)
    to (inr within) = (i, (low, high), omega arith, at, within)

    from : (j : ℕ) (range : ℕ × ℕ) → slice_get list j ≡ Some range → IsWithin n range → (j < i) ⊎ (i ≤ j) → j < i + 1 → Has new n
    from j range there within (inl lt) less = (gains n).1 (inl ((has n).1 (j, range, lt, there, within)))
    from j range there within (inr le) less =
        let e : j ≡ i = omega (arith, le, less) in
        let same : range ≡ (low, high) = same_Some range (low, high) (sym there ∙ ap (slice_get list) e ∙ at) in
        (gains n).1 (inr (subst (IsWithin n) same within))

-- ---- what the calls of a map say

other_key : (last q : ℕ) → (q ≡ last → ⊥) → is_at (nat_cmp last) q ≡ false
other_key last q apart = grind (arith, nat_tests)

pub differ : (old new : BTreeMap ℕ ℕ) (last : ℕ) (there : Option ℕ) → UpdatesBy nat_cmp (nat_cmp last) old new there → Differ old last there new
differ old new last there by = (by.1, λ high apart. by.2 high (other_key last high apart))
