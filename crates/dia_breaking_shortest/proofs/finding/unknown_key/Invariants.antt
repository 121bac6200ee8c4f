use Rattle.dia_breaking_shortest.proofs.Strangers.{AreKnown}
use Rattle.dia_breaking_shortest.proofs.finding.unknown_key.Given as goal

abbrev pub invariant-loop-code : goal.invariant-loop-code
invariant-loop-code g l = AreKnown (g.B.Book.meaning l.book) l.code
