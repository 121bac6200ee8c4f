-- How many of the keys that one definition places the other does not list.
use Rattle.std.proofs.Common.{◌≡◌, ℕ, zero, suc, ◌+◌, ◌≤◌, Bool, true, false, List, [], ◌∷◌, Option, Some, None, refl, sym, ap, ◌∙◌, arith, inl, inr}
use Rattle.std.specs.Prelude.{not, if◌then◌else◌}
use Rattle.std.specs.Option.{option_map_or}
use Rattle.std.proofs.lemmas.Option.{none-some}
use Rattle.dia_wire.specs.declared.Key.{Key}
use Rattle.dia_book.specs.declared.DRule.{DRule}
use Rattle.dia_valid.specs.Valid.{Placed, is_listed}
use Rattle.dia_valid.proofs.RuleCounts.{counts_key}
use Rattle.dia_valid.proofs.Members.{IsIn, count_cons}
use Rattle.dia_breaking_levels.specs.CountsAndRanks.{AreSound, strangers, AreInPlace}
use Rattle.dia_breaking_levels.specs.LeastLevels.{total, copies, or_filler}
use Rattle.dia_breaking_levels.specs.Strangers.{needs, needed}
use Rattle.dia_breaking_levels.proofs.CountsAndRanks.{placed-in_place}
use Rattle.dia_breaking_levels.proofs.LeastLevels.{share, shares, shares_within, count_apart, one_if, copies_least, counted_bounds}

-- 1 for a key that these do not list
abbrev pub one_stranger : List DRule → Key → ℕ
one_stranger others key = one_if (not (is_listed others key))

pub total_strangers : (others : List DRule) (keys : List Key) → total (one_stranger others) keys ≡ strangers others keys
total_strangers others [] = refl
total_strangers others (k ∷ keys) =
    let here = count_cons (λ (q : Key). not (is_listed others q)) k keys in
    let ih = total_strangers others keys in
    omega (arith, here, ih)

total_ones : (others : List DRule) (n : ℕ) (k : Key) → is_listed others k ≡ false → total (one_stranger others) (copies n k) ≡ n
total_ones others zero k none = refl
total_ones others (suc n) k none =
    let one : one_stranger others k ≡ 1 = ap (λ (b : Bool). one_if (not b)) none in
    let ih = total_ones others n k none in
    omega (arith, one, ih)

-- ---- what a rule needs, keys that are placed have

pub needs_none : (others : List DRule) (r : DRule) → r.key ≡ None → needs others r ≡ 0
needs_none others r e = ap (λ (o : Option Key). if option_map_or (λ (k : Key). not (is_listed others k)) o false then r.min else 0) e

pub needs_key : (others : List DRule) (r : DRule) (k : Key) (b : Bool) → r.key ≡ Some k → is_listed others k ≡ b → needs others r ≡ (if not b then r.min else 0)
needs_key others r k b e f = ap (λ (o : Option Key). if option_map_or (λ (q : Key). not (is_listed others q)) o false then r.min else 0) e ∙ ap (λ (l : Bool). if not l then r.min else 0) f

pub needs_within : (a b : List DRule) (keys : List Key) (r : DRule) → AreInPlace a keys → IsIn r a → needs b r ≤ share (one_stranger b) (counts_key a r) keys
needs_within a b keys r in_place i = by r.key refl
  where
    by_listed : (k : Key) → r.key ≡ Some k → (l : Bool) → is_listed b k ≡ l → needs b r ≤ share (one_stranger b) (counts_key a r) keys
    by_listed k e true f = let none = needs_key b r k true e f in omega (arith, none)
    by_listed k e false f =
        let all = needs_key b r k false e f in
        let bounds = counted_bounds a keys r in_place i in
        let le = copies_least a (one_stranger b) k keys r r.min (λ g some. absurd (none-some k (sym g ∙ e))) bounds.0 in
        let own = ap (λ (o : Option Key). total (one_stranger b) (copies r.min (or_filler k o))) e in
        let ones = total_ones b r.min k f in
        omega (arith, all, le, own, ones)

    by : (o : Option Key) → r.key ≡ o → needs b r ≤ share (one_stranger b) (counts_key a r) keys
    by None e = let none = needs_none b r e in omega (arith, none)
    by (Some k) e = by_listed k e (is_listed b k) refl

module _ (a b : List DRule) (keys : List Key) where
  needed_shares : (some : List DRule) → ((r : DRule) → IsIn r some → needs b r ≤ share (one_stranger b) (counts_key a r) keys) → needed b some ≤ shares (counts_key a) (one_stranger b) some keys
  needed_shares [] each = omega arith
  needed_shares (r ∷ some) each =
      let here = each r (inl refl) in
      let ih = needed_shares some (λ s i. each s (inr i)) in
      omega (arith, here, ih)

  wild_shares : (some : List DRule) (w : DRule) → ((r : DRule) → IsIn r some → needs b r ≤ share (one_stranger b) (counts_key a r) keys) → IsIn w some → w.key ≡ None
      → needed b some + share (one_stranger b) (counts_key a w) keys ≤ shares (counts_key a) (one_stranger b) some keys
  wild_shares [] w each i e = absurd i
  wild_shares (r ∷ some) w each (inl same) e =
      let own = ap (λ (t : DRule). share (one_stranger b) (counts_key a t) keys) same in
      let none = needs_none b r (ap (λ (t : DRule). t.key) (sym same) ∙ e) in
      let rest = needed_shares some (λ s i. each s (inr i)) in
      omega (arith, own, none, rest)
  wild_shares (r ∷ some) w each (inr i) e =
      let here = each r (inl refl) in
      let ih = wild_shares some w (λ s j. each s (inr j)) i e in
      omega (arith, here, ih)

-- keys that are placed by the one have as many that the other does not list as its rules need
pub needed_least : (a b : List DRule) (keys : List Key) → AreSound a → Placed a keys → needed b a ≤ strangers b keys
needed_least a b keys sound placed =
    let in_place = placed-in_place a keys sound placed in
    let all = shares_within (counts_key a) (one_stranger b) a keys (count_apart a a sound.distinct (λ r i. i)) in
    let some = needed_shares a b keys a (λ r i. needs_within a b keys r in_place i) in
    let count = total_strangers b keys in
    omega (arith, all, some, count)

-- of those that the one counts by its wildcard the rest at most
pub others_most : (a b : List DRule) (keys : List Key) (w : DRule) → AreSound a → Placed a keys → IsIn w a → w.key ≡ None → needed b a + share (one_stranger b) (counts_key a w) keys ≤ strangers b keys
others_most a b keys w sound placed i e =
    let in_place = placed-in_place a keys sound placed in
    let all = shares_within (counts_key a) (one_stranger b) a keys (count_apart a a sound.distinct (λ r j. j)) in
    let some = wild_shares a b keys a w (λ r j. needs_within a b keys r in_place j) i e in
    let count = total_strangers b keys in
    omega (arith, all, some, count)
