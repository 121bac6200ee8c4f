use Rattle.std.proofs.Common.{◌≡◌}
use Rattle.dia_lint.specs.Pairs.{is_any, request_among}
use Rattle.dia_lint.proofs.guidelines.firsts.first_any.Given as goal

abbrev pub invariant-loop-index : goal.invariant-loop-index
invariant-loop-index g l = l.first ≡ request_among (g.B.Book.meaning l.book) is_any l.index
