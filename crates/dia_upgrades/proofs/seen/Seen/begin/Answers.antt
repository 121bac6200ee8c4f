use Rattle.dia_upgrades.proofs.LinesToReport.{left_none}
use Rattle.dia_upgrades.proofs.seen.Seen.begin.Goals as goal
use Rattle.dia_upgrades.specs.Rows.{left_of, tolds}
use Rattle.dia_upgrades.proofs.Rows.{none_recorded}

pub returns : goal.returns
returns c = λ asked list before place visits recorded apart none are. record {
  judged = record { accepting = are.judged.accepting; lines_are = are.judged.lines_are; accepted_are = are.judged.accepted_are; is_some_is = are.judged.is_some_is };
  are_kept = record {
    causes = c.begin.ensures (tolds (left_of list recorded)) before place visits (λ e. none_recorded place (left_of list recorded) (left_none list place recorded (none e).0)) are.are_kept.causes;
    meanings = c.begin-2.ensures (tolds (left_of list apart)) before place visits (λ e. none_recorded place (left_of list apart) (left_none list place apart (none e).1)) are.are_kept.meanings;
    firsts = are.are_kept.firsts;
  };
}
