use Rattle.std.proofs.Common.{◌≡◌}
use Rattle.dia_lint.specs.Pairs.{has_session, request_among}
use Rattle.dia_lint.proofs.guidelines.pairs.first_with_session.Given as goal

abbrev pub invariant-loop-index : goal.invariant-loop-index
invariant-loop-index g l = l.first ≡ request_among (g.B.Book.meaning l.book) has_session l.index
