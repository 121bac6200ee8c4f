use Rattle.std.proofs.Common.{ℕ, List, length}
use Rattle.dia_terms.specs.declared.Unknown.{Unknown}
use Rattle.dia_terms.specs.declared.Levels.{Levels}
use Rattle.dia_check.specs.Faults.{HasGoodHeader}
use Rattle.dia_check.specs.UnderWay.{IsUnderWay}
use Rattle.dia_check.specs.Reading.{AreSound}
use Rattle.dia_check.proofs.stream.parts.go_on.Given as goal

abbrev pub invariant-loop-open_levels : goal.invariant-loop-open_levels
invariant-loop-open_levels g l =
    ∥ AreSound (g.B.Book.meaning l.book) l.open_levels l.at ∥₁
    × ((u : Unknown) (most : Levels) (bytes : List ℕ) (good : HasGoodHeader (g.B.Book.meaning l.book) bytes)
    → IsUnderWay (g.B.Book.meaning l.book) u most bytes good l.fn.open_levels l.at → IsUnderWay (g.B.Book.meaning l.book) u most bytes good l.open_levels l.at)

abbrev pub decreases-loop-open_levels : goal.decreases-loop-open_levels
decreases-loop-open_levels g l = length l.open_levels.outer.items
