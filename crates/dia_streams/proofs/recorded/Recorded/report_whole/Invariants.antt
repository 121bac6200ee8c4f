use Rattle.std.proofs.Common.{◌≡◌, ◌+◌, length}
use Rattle.dia_streams.specs.StreamUnderWay.{RecordsWhole}
use Rattle.dia_streams.proofs.recorded.Recorded.report_whole.Given as goal

abbrev pub invariant-loop-message : goal.invariant-loop-message
invariant-loop-message g l = record {
  records : RecordsWhole (g.J.MessageJudge.says l.judge) (g.J.MessageJudge.recorded l.judge) g.W.Watch.saw l.initial.self l.self l.initial.watch l.watch l.bytes l.rest;
  counts : l.self.at + length l.rest ≡ l.initial.self.at + length l.bytes;
}

abbrev pub decreases-loop-message : goal.decreases-loop-message
decreases-loop-message g l = length l.rest
