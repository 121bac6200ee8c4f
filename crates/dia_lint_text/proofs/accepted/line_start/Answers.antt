use Rattle.std.proofs.Common.{ℕ, ◌+◌, ◌≤◌, Bool, true, false, cond, List, [], ◌∷◌, length, ap, arith}
use Rattle.std.specs.Prelude.{not, ◌==◌}
use Rattle.std.specs.List.{prefix_len, range_with_len}
use Rattle.std.proofs.lemmas.List.FromFn.{length-range_with_len}
use Rattle.dia_explain_places.specs.Places.{line_at}
use Rattle.dia_lint_text.proofs.accepted.line_start.Goals as goal

within : (p : ℕ → Bool) (xs : List ℕ) → prefix_len p xs ≤ length xs
within p [] = omega arith
within p (x ∷ xs) = by (p x) (within p xs)
  where
    by : (b : Bool) → prefix_len p xs ≤ length xs → cond b (1 + prefix_len p xs) 0 ≤ length (x ∷ xs)
    by true h = omega (arith, h)
    by false h = omega arith

pub returns-clause-within : goal.returns-clause-within
returns-clause-within c =
    let text = c.as_bytes.result.now in
    let a = within (λ at. not (line_at text at == c.args.line)) (range_with_len 0 (length text)) in
    let b = length-range_with_len 0 (length text) in
    let e = ap length c.as_bytes.ensures.value in
    omega (arith, a, b, c.start_of_line.ensures.start, e)
