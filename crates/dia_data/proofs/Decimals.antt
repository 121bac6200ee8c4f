-- Numbers in decimal, a digit after the others.
use Rattle.std.proofs.Common.{◌≡◌, ℕ, ◌<◌, ◌≤◌, ◌/◌, ◌%◌, ◌^◌, List, ◌++◌, sym, ap, ◌∙◌, arith}
use Rattle.std.specs.Fmt.{decimal}
use Rattle.std.proofs.lemmas.Fmt.{decimal_digit, decimal_step}

pub last_digit : (n : ℕ) → 10 ≤ n → n < 2 ^ 64 → decimal n ≡ decimal (n / 10) ++ decimal (n % 10)
last_digit n more fits = decimal_step n more fits ∙ ap (λ (ds : List ℕ). decimal (n / 10) ++ ds) (sym (decimal_digit (n % 10) (omega arith)))
