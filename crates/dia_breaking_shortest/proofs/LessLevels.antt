-- What a least level takes becomes no more where lengths become less.
use Rattle.std.proofs.Common.{◌≡◌, ℕ, zero, suc, ◌+◌, ◌*◌, ◌<◌, ◌≤◌, List, [], ◌∷◌, Option, Some, None, arith, inl, inr}
use Rattle.std.specs.Prelude.{◌⊎◌, fold}
use Rattle.std.specs.Option.{option_map_or}
use Rattle.std.proofs.Math.Nat.{mul-le-mul_left}
use Rattle.std.proofs.lemmas.Bool.{cases_lt}
use Rattle.dia_wire.specs.declared.Key.{Key}
use Rattle.dia_book.specs.declared.DRule.{DRule}
use Rattle.dia_breaking_levels.specs.LevelTests.{too_long, capped, many, base_length}
use Rattle.dia_breaking_shortest.specs.Floors.{shortest_head}
use Rattle.dia_breaking_shortest.specs.Lengths.{group_length}
use Rattle.dia_breaking_shortest.proofs.FloorsOfAvps.{rounded_up, rounded_more}
use Rattle.dia_breaking_shortest.proofs.LeafLengths.{head_long}

-- the level of these rules and those before, which take so much
abbrev pub level_from : (Key → ℕ) → ℕ → ℕ → List DRule → ℕ
level_from f filler start rules = fold (λ sum rule. capped (sum + many rule.min (option_map_or f rule.key filler))) start rules

pub level_more : (f : Key → ℕ) (filler start : ℕ) (rules : List DRule) → start ≤ too_long → start ≤ level_from f filler start rules
level_more f filler start [] le = omega arith
level_more f filler start (r ∷ rules) le =
    let ih = level_more f filler (capped (start + many r.min (option_map_or f r.key filler))) rules (omega arith) in
    omega (arith, ih, le)

level_short : (f : Key → ℕ) (filler start : ℕ) (rules : List DRule) → start ≤ too_long → level_from f filler start rules ≤ too_long
level_short f filler start [] le = le
level_short f filler start (r ∷ rules) le = level_short f filler (capped (start + many r.min (option_map_or f r.key filler))) rules (omega arith)

-- so many AVPs, if their length is less where they take no more than n together
many_less : (m x y n : ℕ) → n < too_long → many m y ≤ n → (y ≤ n → x ≤ y) → many m x ≤ many m y
many_less zero x y n short le less = omega arith
many_less (suc m) x y n short le less =
    let one : suc m * y ≡ y + m * y = omega arith in
    let other : suc m * x ≡ x + m * x = omega arith in
    let here : x ≤ y = less (omega (arith, one, le, short)) in
    let rest : m * x ≤ m * y = mul-le-mul_left m here in
    omega (arith, one, other, here, rest)

level_less : (f g : Key → ℕ) (a b s t n : ℕ) (rules : List DRule) → s ≤ t → n < too_long → t ≤ too_long → level_from g b t rules ≤ n
    → ((o : Option Key) → option_map_or g o b ≤ n → option_map_or f o a ≤ option_map_or g o b) → level_from f a s rules ≤ level_from g b t rules
level_less f g a b s t n [] le short within most each = le
level_less f g a b s t n (r ∷ rules) le short within most each =
    let all = level_more g b (capped (t + many r.min (option_map_or g r.key b))) rules (omega arith) in
    let taken : t + many r.min (option_map_or g r.key b) ≤ n = omega (arith, all, most, short) in
    let here = many_less r.min (option_map_or f r.key a) (option_map_or g r.key b) n short (omega (arith, taken)) (each r.key) in
    level_less f g a b (capped (s + many r.min (option_map_or f r.key a))) (capped (t + many r.min (option_map_or g r.key b))) n rules (omega (arith, le, here)) short (omega arith) most each

-- a level below the length that means none, if no length that it asks for becomes more
pub base_less : (f g : Key → ℕ) (a b : ℕ) (rules : List DRule) → base_length g b rules < too_long
    → ((o : Option Key) → option_map_or g o b ≤ base_length g b rules → option_map_or f o a ≤ option_map_or g o b) → base_length f a rules ≤ base_length g b rules
base_less f g a b rules short each = level_less f g a b 0 0 (base_length g b rules) rules (omega arith) short (omega arith) (omega arith) each

-- any level, if none becomes more
pub base_no_more : (f g : Key → ℕ) (a b : ℕ) (rules : List DRule) → a ≤ b → ((key : Key) → f key ≤ g key) → base_length f a rules ≤ base_length g b rules
base_no_more f g a b rules le each = by (cases_lt (base_length g b rules) too_long)
  where
    option_less : (o : Option Key) → option_map_or f o a ≤ option_map_or g o b
    option_less None = le
    option_less (Some key) = each key

    by : (base_length g b rules < too_long) ⊎ (too_long ≤ base_length g b rules) → base_length f a rules ≤ base_length g b rules
    by (inl lt) = base_less f g a b rules lt (λ o _. option_less o)
    by (inr more) = let short = level_short f a 0 rules (omega arith) in omega (arith, short, more)

pub group_less : (f g : Key → ℕ) (a b : ℕ) (key : Key) (rules : List DRule) → base_length f a rules ≤ base_length g b rules → group_length f a key rules ≤ group_length g b key rules
group_less f g a b key rules le =
    let more = rounded_more (shortest_head key + base_length f a rules) (shortest_head key + base_length g b rules) (omega (arith, le)) in
    omega (arith, more)

-- a group takes more than its level
pub level_within : (f : Key → ℕ) (filler n : ℕ) (key : Key) (rules : List DRule) → n ≡ group_length f filler key rules → n < too_long → base_length f filler rules < n
level_within f filler n key rules is short =
    let head = head_long key in
    let up = rounded_up (shortest_head key + base_length f filler rules) in
    omega (arith, head, up, is, short)
