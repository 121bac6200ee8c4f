-- The first place in an entry, from colon to colon.
use Rattle.std.proofs.Common.{◌≡◌, ℕ, suc, ◌+◌, ◌-◌, ◌≤◌, Bool, true, false, cond, List, [], ◌∷◌, length, drop, Option, None, refl, ap, ◌∙◌, arith}
use Rattle.std.specs.Prelude.{◌==◌, if◌then◌else◌, not}
use Rattle.std.specs.List.{after_first, position_or_len}
use Rattle.std.specs.Option.{option_or}
use Rattle.std.proofs.lemmas.List.{length-drop}
use Rattle.dia_lint_text.specs.Lists.{after_first_place, after_place}

abbrev pub is_colon : ℕ → Bool
is_colon c = c == 58

abbrev pub from_here : List ℕ → Option (List ℕ)
from_here rest = option_or (after_place rest) (after_first_place rest)

pub next_colon : (s : List ℕ) → after_first_place s ≡ from_here (after_first is_colon s)
next_colon [] = refl
next_colon (c ∷ cs) = by (c == 58) (next_colon cs)
  where
    by : (b : Bool) → after_first_place cs ≡ from_here (after_first is_colon cs)
        → (if b then option_or (after_place cs) (after_first_place cs) else after_first_place cs) ≡ from_here (drop (cond (not b) (1 + position_or_len is_colon cs) 0 + 1) (c ∷ cs))
    by true ih = ap (λ n. from_here (drop n (c ∷ cs))) (let e : 1 ≡ 0 + 1 = omega arith in e)
    by false ih =
        let more : after_first is_colon cs ≡ drop (1 + position_or_len is_colon cs + 1) (c ∷ cs)
        = ap (λ n. drop n (c ∷ cs)) (let e : suc (position_or_len is_colon cs + 1) ≡ 1 + position_or_len is_colon cs + 1 = omega arith in e) in
        ih ∙ ap from_here more

pub shorter_rest : (s : List ℕ) (n total : ℕ) → length s ≤ total - n → length (after_first is_colon s) ≤ total - (n + 1)
shorter_rest s n total h = let short = length-drop (position_or_len is_colon s + 1) s in omega (arith, short, h)

pub none_left : (s : List ℕ) (n total : ℕ) → total ≤ n → length s ≤ total - n → after_first_place s ≡ None
none_left [] n total end h = refl
none_left (c ∷ cs) n total end h = absurd (omega (arith, end, h))
