-- What keys that are placed cost at least, where two of them occur.
use Rattle.std.proofs.Common.{◌≡◌, ◌≢◌, ℕ, ◌+◌, ◌*◌, ◌≤◌, Bool, true, false, cond, List, [], ◌∷◌, refl, sym, ap, subst, ◌∙◌, arith, inl, inr}
use Rattle.std.specs.Prelude.{min, max, ◌&&◌, count_by}
use Rattle.std.proofs.Math.Nat.{mul-le-mul_right, add-mul, one-mul}
use Rattle.dia_wire.specs.declared.Key.{Key}
use Rattle.dia_book.specs.declared.DRule.{DRule}
use Rattle.dia_valid.proofs.Members.{IsIn, count_cons}
use Rattle.dia_breaking_levels.proofs.LeastLevels.{share}
use Rattle.dia_breaking_levels.proofs.RuleSums.{sum_of, sums_one}

-- what two rules have more, the sum has more
pub sums_two : (f g : DRule → ℕ) (rules : List DRule) (r s : DRule) (into_r out_r into_s out_s : ℕ) → ((t : DRule) → IsIn t rules → f t ≤ g t) → IsIn r rules → IsIn s rules → r ≢ s
    → f r + into_r ≤ g r + out_r → f s + into_s ≤ g s + out_s
    → sum_of f rules + (into_r + into_s) ≤ sum_of g rules + (out_r + out_s)
sums_two f g [] r s ir or is os each i j apart more less = absurd i
sums_two f g (t ∷ rules) r s ir or is os each (inl e) (inl e') apart more less = absurd (apart (e ∙ sym e'))
sums_two f g (t ∷ rules) r s ir or is os each (inl e) (inr j) apart more less =
    let here : f t + ir ≤ g t + or = subst (λ (u : DRule). f u + ir ≤ g u + or) e more in
    let rest = sums_one f g rules s is os (λ u k. each u (inr k)) j less in
    omega (arith, here, rest)
sums_two f g (t ∷ rules) r s ir or is os each (inr i) (inl e) apart more less =
    let here : f t + is ≤ g t + os = subst (λ (u : DRule). f u + is ≤ g u + os) e less in
    let rest = sums_one f g rules r ir or (λ u k. each u (inr k)) i more in
    omega (arith, here, rest)
sums_two f g (t ∷ rules) r s ir or is os each (inr i) (inr j) apart more less =
    let here = each t (inl refl) in
    let ih = sums_two f g rules r s ir or is os (λ u k. each u (inr k)) i j apart more less in
    omega (arith, here, ih)

three_step : (p t u : Bool) (n m h c d e k share : ℕ) → (p ≡ true → c ≤ k) → (p ≡ true → t ≡ true → c + d ≤ k) → (p ≡ true → u ≡ true → c + e ≤ k) → (t ≡ true → u ≡ true → ⊥)
    → n * c + m * d + h * e ≤ share
    → (cond p 1 0 + n) * c + (cond (p && t) 1 0 + m) * d + (cond (p && u) 1 0 + h) * e ≤ cond p k 0 + share
three_step true true true n m h c d e k share low first second apart ih = absurd (apart refl refl)
three_step true true false n m h c d e k share low first second apart ih =
    let here = first refl refl in
    omega (arith, here, add-mul 1 n c, one-mul c, add-mul 1 m d, one-mul d, ih)
three_step true false true n m h c d e k share low first second apart ih =
    let here = second refl refl in
    omega (arith, here, add-mul 1 n c, one-mul c, add-mul 1 h e, one-mul e, ih)
three_step true false false n m h c d e k share low first second apart ih =
    let here = low refl in
    omega (arith, here, add-mul 1 n c, one-mul c, ih)
three_step false t u n m h c d e k share low first second apart ih = omega (arith, ih)

-- keys that cost c at least, and those among them that pass either of two tests as much as d or e more
pub share_three : (cost : Key → ℕ) (p t u : Key → Bool) (c d e : ℕ) (keys : List Key) → ((q : Key) → IsIn q keys → p q ≡ true → c ≤ cost q)
    → ((q : Key) → IsIn q keys → p q ≡ true → t q ≡ true → c + d ≤ cost q)
    → ((q : Key) → IsIn q keys → p q ≡ true → u q ≡ true → c + e ≤ cost q) → ((q : Key) → t q ≡ true → u q ≡ true → ⊥)
    → count_by p keys * c + count_by (λ q. p q && t q) keys * d + count_by (λ q. p q && u q) keys * e ≤ share cost p keys
share_three cost p t u c d e [] low first second apart = omega arith
share_three cost p t u c d e (k ∷ keys) low first second apart =
    let ih = share_three cost p t u c d e keys (λ q i. low q (inr i)) (λ q i. first q (inr i)) (λ q i. second q (inr i)) apart in
    let all = count_cons p k keys in
    let one = count_cons (λ (q : Key). p q && t q) k keys in
    let two = count_cons (λ (q : Key). p q && u q) k keys in
    let step = three_step (p k) (t k) (u k) (count_by p keys) (count_by (λ q. p q && t q) keys) (count_by (λ q. p q && u q) keys) c d e (cost k) (share cost p keys) (low k (inl refl))
    (first k (inl refl)) (second k (inl refl)) (apart k) ih in
    subst (λ (n : ℕ). n * c + count_by (λ q. p q && t q) (k ∷ keys) * d + count_by (λ q. p q && u q) (k ∷ keys) * e ≤ cond (p k) (cost k) 0 + share cost p keys) (sym all)
    (subst (λ (n : ℕ). (cond (p k) 1 0 + count_by p keys) * c + n * d + count_by (λ q. p q && u q) (k ∷ keys) * e ≤ cond (p k) (cost k) 0 + share cost p keys) (sym one)
    (subst (λ (n : ℕ). (cond (p k) 1 0 + count_by p keys) * c + (cond (p k && t k) 1 0 + count_by (λ q. p q && t q) keys) * d + n * e ≤ cond (p k) (cost k) 0 + share cost p keys) (sym two) step))

-- where one of each of two dearer kinds is among them
pub both_of : (n w m h c d e length other share : ℕ) → length ≡ c + d → other ≡ c + e → w ≤ n → 1 ≤ m → 1 ≤ h → m + h ≤ n → n * c + m * d + h * e ≤ share
    → w * c + (length + other) ≤ share + min 2 w * c
both_of n w m h c d e length other share is_one is_two enough one two within le =
    let first = mul-le-mul_right d one in
    let second = mul-le-mul_right e two in
    let long : max w 2 ≤ n = omega (arith, enough, one, two, within) in
    let cheap = mul-le-mul_right c long in
    let both : (max w 2 + min 2 w) * c ≡ (w + 2) * c = ap (λ (x : ℕ). x * c) (omega arith) in
    omega (arith, is_one, is_two, first, second, one-mul d, one-mul e, cheap, both, add-mul (max w 2) (min 2 w) c, add-mul w 2 c, add-mul 1 1 c, one-mul c, le)
