use Rattle.std.proofs.Common.{◌≡◌, ◌++◌, List, ℕ, length}
use Rattle.dia_streams.specs.LinesUnderWay.{Reads}
use Rattle.dia_streams.proofs.answered.Answered.read.Given as goal

abbrev pub invariant-loop-line : goal.invariant-loop-line
invariant-loop-line g l = record {
  reads : (done : List ℕ) × (recorded : List _) × (l.piece ≡ done ++ l.rest)
      × Reads (g.J.Judge.says l.judge) (g.J.Judge.recorded l.judge) g.W.Watch.saw l.initial.self l.self l.initial.watch l.watch done recorded;
}

abbrev pub decreases-loop-line : goal.decreases-loop-line
decreases-loop-line g l = length l.rest
