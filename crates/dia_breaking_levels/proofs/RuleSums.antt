-- Sums over the rules of a definition: what the keys that each rule counts cost.
use Rattle.std.proofs.Common.{◌≡◌, ℕ, ◌+◌, ◌-◌, ◌*◌, ◌≤◌, Bool, true, false, cond, List, [], ◌∷◌, refl, sym, ap, subst, arith, inl, inr}
use Rattle.std.specs.Prelude.{min, max, ◌&&◌, count_by}
use Rattle.std.proofs.Math.Nat.{add-mul, mul-add, one-mul, mul-le-mul_right}
use Rattle.dia_wire.specs.declared.Key.{Key}
use Rattle.dia_book.specs.declared.DRule.{DRule}
use Rattle.dia_valid.proofs.Members.{IsIn, count_cons}
use Rattle.dia_breaking_levels.specs.LevelTests.{capped, swapped}
use Rattle.dia_breaking_levels.proofs.LeastLevels.{share, shares}

abbrev pub sum_of : (DRule → ℕ) → List DRule → ℕ
sum_of f [] = 0
sum_of f (rule ∷ rules) = f rule + sum_of f rules

pub shares_sum : (f : DRule → Key → Bool) (cost : Key → ℕ) (rules : List DRule) (keys : List Key) → shares f cost rules keys ≡ sum_of (λ r. share cost (f r) keys) rules
shares_sum f cost [] keys = refl
shares_sum f cost (r ∷ rules) keys = let ih = shares_sum f cost rules keys in omega (arith, ih)

pub sums_each : (f g : DRule → ℕ) (rules : List DRule) → ((r : DRule) → IsIn r rules → f r ≤ g r) → sum_of f rules ≤ sum_of g rules
sums_each f g [] each = omega arith
sums_each f g (r ∷ rules) each =
    let here = each r (inl refl) in
    let ih = sums_each f g rules (λ s i. each s (inr i)) in
    omega (arith, here, ih)

-- what one rule has more, the sum has more
pub sums_one : (f g : DRule → ℕ) (rules : List DRule) (r : DRule) (into out : ℕ) → ((s : DRule) → IsIn s rules → f s ≤ g s) → IsIn r rules → f r + into ≤ g r + out
    → sum_of f rules + into ≤ sum_of g rules + out
sums_one f g [] r into out each i more = absurd i
sums_one f g (s ∷ rules) r into out each (inl same) more =
    let here : f s + into ≤ g s + out = subst (λ (t : DRule). f t + into ≤ g t + out) same more in
    let rest = sums_each f g rules (λ t i. each t (inr i)) in
    omega (arith, here, rest)
sums_one f g (s ∷ rules) r into out each (inr i) more =
    let here = each s (inl refl) in
    let ih = sums_one f g rules r into out (λ t j. each t (inr j)) i more in
    omega (arith, here, ih)

pub one_of_sum : (f : DRule → ℕ) (rules : List DRule) (r : DRule) → IsIn r rules → f r ≤ sum_of f rules
one_of_sum f [] r i = absurd i
one_of_sum f (s ∷ rules) r (inl same) =
    let here : f r ≤ f s = subst (λ (t : DRule). f t ≤ f s) (sym same) (omega arith) in
    omega (arith, here)
one_of_sum f (s ∷ rules) r (inr i) = let ih = one_of_sum f rules r i in omega (arith, ih)

-- ---- what the keys that pass a test cost at least

two_step : (b t : Bool) (n m c e k share : ℕ) → (b ≡ true → c ≤ k) → (b ≡ true → t ≡ true → c + e ≤ k) → n * c + m * e ≤ share
    → (cond b 1 0 + n) * c + (cond (b && t) 1 0 + m) * e ≤ cond b k 0 + share
two_step true true n m c e k share low high ih =
    let here = high refl refl in
    let first = add-mul 1 n c in
    let one = one-mul c in
    let second = add-mul 1 m e in
    let two = one-mul e in
    omega (arith, here, first, one, second, two, ih)
two_step true false n m c e k share low high ih =
    let here = low refl in
    let first = add-mul 1 n c in
    let one = one-mul c in
    omega (arith, here, first, one, ih)
two_step false t n m c e k share low high ih = omega (arith, ih)

-- keys that cost c at least, and those among them that pass another test as much as e more
pub share_two : (cost : Key → ℕ) (p t : Key → Bool) (c e : ℕ) (keys : List Key) → ((q : Key) → IsIn q keys → p q ≡ true → c ≤ cost q)
    → ((q : Key) → IsIn q keys → p q ≡ true → t q ≡ true → c + e ≤ cost q) → count_by p keys * c + count_by (λ q. p q && t q) keys * e ≤ share cost p keys
share_two cost p t c e [] low high = omega arith
share_two cost p t c e (k ∷ keys) low high =
    let ih = share_two cost p t c e keys (λ q i. low q (inr i)) (λ q i. high q (inr i)) in
    let all = count_cons p k keys in
    let dear = count_cons (λ (q : Key). p q && t q) k keys in
    let step = two_step (p k) (t k) (count_by p keys) (count_by (λ q. p q && t q) keys) c e (cost k) (share cost p keys) (low k (inl refl)) (high k (inl refl)) ih in
    subst (λ (n : ℕ). n * c + count_by (λ q. p q && t q) (k ∷ keys) * e ≤ cond (p k) (cost k) 0 + share cost p keys) (sym all)
    (subst (λ (n : ℕ). (cond (p k) 1 0 + count_by p keys) * c + n * e ≤ cond (p k) (cost k) 0 + share cost p keys) (sym dear) step)

pub share_one : (cost : Key → ℕ) (p : Key → Bool) (c : ℕ) (keys : List Key) → ((q : Key) → IsIn q keys → p q ≡ true → c ≤ cost q) → count_by p keys * c ≤ share cost p keys
share_one cost p c keys low =
    let two = share_two cost p (λ q. false) c 0 keys low (λ q i b t. absurd (let e : false ≡ true = t in cc)) in
    omega (arith, two)

-- ---- numbers

-- where n of the keys occur, w at least, and m of them cost e more
pub more_of : (n m w have c e length share : ℕ) → length ≡ c + e → w ≤ n → m ≤ have → have ≤ n → n * c + have * e ≤ share → w * c + m * length ≤ share + min m w * c
more_of n m w have c e length share is enough some within le =
    let all = mul-add m c e in
    let l : m * length ≡ m * (c + e) = ap (λ (x : ℕ). m * x) is in
    let dear = mul-le-mul_right e some in
    let long : max w m ≤ n = omega (arith, enough, some, within) in
    let cheap = mul-le-mul_right c long in
    let both : (max w m + min m w) * c ≡ (w + m) * c = ap (λ (x : ℕ). x * c) (omega arith) in
    let left = add-mul (max w m) (min m w) c in
    let right = add-mul w m c in
    omega (arith, all, l, dear, cheap, both, left, right, le)

-- where n of the keys occur, w at least, and all but m of them cost e more
pub less_of : (n dear m w c e length share : ℕ) → length ≡ c + e → w ≤ n → n ≤ m + dear → n * c + dear * e ≤ share → w * c + (w - m) * length ≤ share + (w - m) * c
less_of n dear m w c e length share is enough most le =
    let l : (w - m) * length ≡ (w - m) * (c + e) = ap (λ (x : ℕ). (w - m) * x) is in
    let all = mul-add (w - m) c e in
    let left : w - m ≤ dear = omega (arith, enough, most) in
    let rest = mul-le-mul_right e left in
    let cheap = mul-le-mul_right c enough in
    omega (arith, l, all, rest, cheap, le)

-- where n of the keys occur, the greater of m and w at least
pub most_of : (n m w c share : ℕ) → w ≤ n → m ≤ n → n * c ≤ share → w * c + max m w * c ≤ share + w * c
most_of n m w c share enough some le =
    let both : max m w ≤ n = omega (arith, enough, some) in
    let all = mul-le-mul_right c both in
    omega (arith, all, le)

pub swapped_within : (base floor cost out into : ℕ) → base ≤ floor → floor ≤ cost → out ≤ floor → floor + into ≤ cost + out → swapped base (capped out) (capped into) ≤ cost
swapped_within base floor cost out into low least part more = omega (arith, low, least, part, more)
