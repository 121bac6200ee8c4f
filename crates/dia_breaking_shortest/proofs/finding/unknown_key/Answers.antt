use Rattle.std.proofs.Common.{refl, arith}
use Rattle.dia_breaking_shortest.proofs.Strangers.{first_unknown, not_all_known}
use Rattle.dia_breaking_shortest.proofs.finding.unknown_key.Goals as goal

pub unreachable-requires : goal.unreachable-requires
unreachable-requires g c = not_all_known (g.B.Book.meaning c.args.book.now) c.loop-code.code (g.met.B.Book.sound c.args.book.now) (omega (arith, c.loop-code-test.false)) c.loop-code.invariant

pub returns-then-is_none : goal.returns-then-is_none
returns-then-is_none g c =
    first_unknown (g.B.Book.meaning c.args.book.now) (record { code = c.loop-code.code; vendor = 0 }) c.avp.result c.avp.ensures c.if-is_none.ensures refl c.loop-code.invariant
