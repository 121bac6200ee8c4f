use Rattle.dia_breaking.proofs.SentKeys.{AreKnownBelow}
use Rattle.dia_breaking.proofs.lengths.stranger.Given as goal

abbrev pub invariant-loop-code : goal.invariant-loop-code
invariant-loop-code g l = AreKnownBelow (g.A.Book.meaning l.a) (g.B.Book.meaning l.b) l.code
