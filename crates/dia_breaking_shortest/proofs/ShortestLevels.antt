-- The keys of a least level, and what they take together.
use Rattle.std.proofs.Common.{◌≡◌, ℕ, zero, suc, ◌+◌, ◌*◌, ◌<◌, ◌≤◌, List, [], ◌∷◌, ◌++◌, refl, sym, ap, subst, arith, inl, inr}
use Rattle.std.specs.List.{AllByRecursion}
use Rattle.std.specs.Option.{option_map_or}
use Rattle.dia_wire.specs.declared.Key.{Key}
use Rattle.dia_book.specs.declared.DRule.{DRule}
use Rattle.dia_valid.proofs.Members.{IsIn}
use Rattle.dia_breaking_levels.specs.LevelTests.{too_long, capped, many, base_length}
use Rattle.dia_breaking_levels.specs.LeastLevels.{total, copies, or_filler, plan}
use Rattle.dia_breaking_levels.proofs.LeastLevels.{total-append}
use Rattle.dia_breaking_shortest.proofs.LessLevels.{level_from, level_more}

-- ---- keys

copies_total : (f : Key → ℕ) (m : ℕ) (key : Key) → total f (copies m key) ≡ m * f key
copies_total f zero key = omega arith
copies_total f (suc m) key =
    let ih = copies_total f m key in
    let one : suc m * f key ≡ f key + m * f key = omega arith in
    omega (arith, ih, one)

copies_all : (P : Key → Type 0) (m : ℕ) (key : Key) → (1 ≤ m → P key) → AllByRecursion P (copies m key)
copies_all P zero key h = tt
copies_all P (suc m) key h = (h (omega arith), copies_all P m key (λ le. h (omega arith)))

all_both : (P : Key → Type 0) (xs ys : List Key) → AllByRecursion P xs → AllByRecursion P ys → AllByRecursion P (xs ++ ys)
all_both P [] ys first second = second
all_both P (x ∷ xs) ys first second = (first.0, all_both P xs ys first.1 second)

-- P holds of the keys of the least level, if it does of each that a rule asks for
pub plan_all : (P : Key → Type 0) (filler : Key) (rules : List DRule) → ((r : DRule) → IsIn r rules → 1 ≤ r.min → P (or_filler filler r.key)) → AllByRecursion P (plan filler rules)
plan_all P filler [] each = tt
plan_all P filler (r ∷ rules) each =
    all_both P (copies r.min (or_filler filler r.key)) (plan filler rules) (copies_all P r.min (or_filler filler r.key) (each r (inl refl))) (plan_all P filler rules (λ s i. each s (inr i)))

-- ---- lengths

-- what is asked for is no longer than the level
one_of_many : (m x n : ℕ) → n < too_long → 1 ≤ m → many m x ≤ n → x ≤ n
one_of_many zero x n short some le = absurd (omega (arith, some))
one_of_many (suc m) x n short some le =
    let one : suc m * x ≡ x + m * x = omega arith in
    omega (arith, one, le, short)

asked_from : (f : Key → ℕ) (a start n : ℕ) (rules : List DRule) → n < too_long → start ≤ too_long → level_from f a start rules ≤ n
    → (r : DRule) → IsIn r rules → 1 ≤ r.min → option_map_or f r.key a ≤ n
asked_from f a start n [] short within most r i some = absurd i
asked_from f a start n (s ∷ rules) short within most r (inl same) some =
    let all = level_more f a (capped (start + many s.min (option_map_or f s.key a))) rules (omega arith) in
    subst (λ (t : DRule). option_map_or f t.key a ≤ n) (sym same)
    (one_of_many s.min (option_map_or f s.key a) n short (subst (λ (t : DRule). 1 ≤ t.min) same some) (omega (arith, all, most, short)))
asked_from f a start n (s ∷ rules) short within most r (inr i) some =
    asked_from f a (capped (start + many s.min (option_map_or f s.key a))) n rules short (omega arith) most r i some

pub asked_within : (f : Key → ℕ) (a : ℕ) (rules : List DRule) → base_length f a rules < too_long → (r : DRule) → IsIn r rules → 1 ≤ r.min → option_map_or f r.key a ≤ base_length f a rules
asked_within f a rules short = asked_from f a 0 (base_length f a rules) rules short (omega arith) (omega arith)

part_total : (f : Key → ℕ) (m x : ℕ) (key : Key) → (1 ≤ m → f key ≡ x) → total f (copies m key) ≡ m * x
part_total f zero x key h = omega arith
part_total f (suc m) x key h =
    let all = copies_total f (suc m) key in
    let same : suc m * f key ≡ suc m * x = ap (λ (k : ℕ). suc m * k) (h (omega arith)) in
    omega (arith, all, same)

plan_from : (f : Key → ℕ) (a start n : ℕ) (filler : Key) (rules : List DRule) → n < too_long → start ≤ too_long → level_from f a start rules ≤ n
    → ((r : DRule) → IsIn r rules → 1 ≤ r.min → f (or_filler filler r.key) ≡ option_map_or f r.key a) → level_from f a start rules ≡ start + total f (plan filler rules)
plan_from f a start n filler [] short within most each = omega arith
plan_from f a start n filler (r ∷ rules) short within most each =
    let x = option_map_or f r.key a in
    let all = level_more f a (capped (start + many r.min x)) rules (omega arith) in
    let here = part_total f r.min x (or_filler filler r.key) (each r (inl refl)) in
    let rest = plan_from f a (capped (start + many r.min x)) n filler rules short (omega arith) most (λ s i. each s (inr i)) in
    let sum = total-append f (copies r.min (or_filler filler r.key)) (plan filler rules) in
    omega (arith, all, here, rest, sum, most, short)

pub plan_total : (f : Key → ℕ) (a : ℕ) (filler : Key) (rules : List DRule) → base_length f a rules < too_long
    → ((r : DRule) → IsIn r rules → 1 ≤ r.min → f (or_filler filler r.key) ≡ option_map_or f r.key a) → base_length f a rules ≡ total f (plan filler rules)
plan_total f a filler rules short each = let all = plan_from f a 0 (base_length f a rules) filler rules short (omega arith) (omega arith) each in omega (arith, all)
