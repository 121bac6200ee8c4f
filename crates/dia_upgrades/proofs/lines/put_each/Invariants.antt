use Rattle.std.proofs.Common.{◌≡◌, List, [], take}
use Rattle.std.specs.Prelude.{IsTrue}
use Rattle.dia_upgrades.specs.Recorded.{AreParts}
use Rattle.dia_upgrades.specs.UnderWay.{GoesOn, IsRecordedIn}
use Rattle.dia_upgrades.proofs.lines.put_each.Given as goal
use Rattle.dia_upgrades.specs.Rows.{Row}

abbrev pub invariant-loop-line : goal.invariant-loop-line
invariant-loop-line g l = record {
  sound : ¬ IsTrue (g.S.Sink.has_failed l.sink);
  budget : l.listing.budget ≡ l.initial.listing.budget;
  recorded : (recorded : List Row) × AreParts (IsRecordedIn l.upgrade l.breaks l.place l.asked.messages) (take l.line-index l.lines) recorded
      × GoesOn (g.W.LineWriter.writes l.writer) l.asked l.place (g.S.Sink.written l.initial.sink) (g.S.Sink.written l.sink) l.initial.listing l.listing recorded [];
}
