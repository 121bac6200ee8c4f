use Rattle.std.proofs.Common.{ap}
use Rattle.dia_lint.specs.WayLines.{IsReachedBy}
use Rattle.dia_lint.specs.Ways.{IsReached, side_of}
use Rattle.dia_lint.proofs.Fillers.{when_ok}
use Rattle.dia_lint.proofs.FoundWays.{of_side}
use Rattle.dia_lint.proofs.held.reached_by.Goals as goal

pub new-requires : goal.new-requires
new-requires g c = c.requires

pub of-requires : goal.of-requires
of-requires g c =
    of_side (side_of g.B.Book.meaning c.in_ok-lengths.lengths) (g.B.Book.meaning c.args.book.now) c.args.sends c.in_ok-lengths.ensures.lengths (ap g.B.Book.meaning c.in_ok-lengths.ensures.book)
    c.in_ok-lengths.ensures.sends

pub returns : goal.returns
returns g c =
    let s = side_of g.B.Book.meaning c.in_ok-lengths.lengths in
    let d = g.B.Book.meaning c.args.book.now in
    let book = ap g.B.Book.meaning c.in_ok-lengths.ensures.book in
    let sends = c.in_ok-lengths.ensures.sends in
    when_ok (IsReached s) (IsReachedBy d c.args.sends) c.of.result (λ r reached. (s, book, sends, of_side s d c.args.sends c.in_ok-lengths.ensures.lengths book sends, reached)) c.of.ensures
