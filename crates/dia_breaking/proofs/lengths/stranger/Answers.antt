use Rattle.std.proofs.Common.{refl, arith}
use Rattle.dia_breaking.proofs.OrderedKeys.{is_stranger}
use Rattle.dia_breaking.proofs.SentKeys.{some_strange}
use Rattle.dia_breaking.proofs.lengths.stranger.Goals as goal

pub unreachable-requires : goal.unreachable-requires
unreachable-requires g c =
    some_strange (g.A.Book.meaning c.args.a.now) (g.B.Book.meaning c.args.b.now) c.loop-code.code (g.met.A.Book.sound c.args.a.now) (g.met.B.Book.sound c.args.b.now)
    (omega (arith, c.loop-code-test.false))
    c.loop-code.invariant

pub returns-then-is_strange : goal.returns-then-is_strange
returns-then-is_strange g c =
    let da = g.A.Book.meaning c.args.a.now in
    let db = g.B.Book.meaning c.args.b.now in
    is_stranger da db (record { code = c.loop-code.code; vendor = 0 }) c.if-is_strange.ensures refl c.loop-code.invariant
