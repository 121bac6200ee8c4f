use Rattle.std.proofs.Common.{length, List, ◌++◌}
use Rattle.dia_c_calls.specs.declared.verdict.Verdict.{Verdict}
use Rattle.dia_c_calls.specs.Batches.{AreEndsFrom, AreVerdicts, AreVerdictsFrom}
use Rattle.dia_c_calls.proofs.batch.checked_all.Given as goal

abbrev pub invariant-loop-end : goal.invariant-loop-end
invariant-loop-end g l = AreEndsFrom l.at (length l.bytes) l.left
    × ((vs : List Verdict) → AreVerdictsFrom (g.B.Book.meaning l.book) l.unknown l.levels l.at l.bytes l.left vs
    → AreVerdicts (g.B.Book.meaning l.book) l.unknown l.levels l.bytes l.ends (l.verdicts.items ++ vs))

abbrev pub decreases-loop-end : goal.decreases-loop-end
decreases-loop-end g l = length l.left
