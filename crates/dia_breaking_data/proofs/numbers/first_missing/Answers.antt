use Rattle.std.proofs.Common.{◌+◌, ◌<◌, ℕ, ap, arith}
use Rattle.dia_breaking_data.proofs.RangesOfNumbers.{before_first, after_first, first_is}
use Rattle.dia_breaking_data.proofs.numbers.first_missing.Goals as goal

pub returns-then-low-gt0-clause-some : goal.returns-then-low-gt0-clause-some
returns-then-low-gt0-clause-some c =
    let r = c.in-Some.field-0.now in
    let first = (first_is c.args.ranges.now r c.in-Some.ensures.value).0 in
    before_first c.args.ranges.now r 0 c.requires (omega (arith, ap (λ (x : ℕ × ℕ). x.0) first, c.if-low-gt0.true))

pub returns-else-low-gt0-clause-some : goal.returns-else-low-gt0-clause-some
returns-else-low-gt0-clause-some c =
    after_first c.args.ranges.now c.in-Some.field-0.now c.checked_add.result (c.in-Some.field-0.now.1 + 1 < 4294967296) c.in-Some.ensures.value c.requires c.checked_add.ensures
