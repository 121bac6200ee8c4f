use Rattle.std.proofs.Common.{refl}
use Rattle.dia_driver.proofs.Failures.{by_false, by_true, failed_with_3}
use Rattle.dia_driver.proofs.running.report_failure.Goals as goal

pub returns-then-is_unread : goal.returns-then-is_unread
returns-then-is_unread g c = record {
  is_3 = refl;
  quiet = λ _. (c.requires.err, refl);
  recorded = λ other. absurd (other (by_true c.is_unread.result _ c.is_unread.ensures c.if-is_unread.true));
}

pub returns-then-not-quiet : goal.returns-then-not-quiet
returns-then-not-quiet g c = record {
  is_3 = failed_with_3 c.args.ending.now _ c.report_error-status.result c.requires.failed c.report_error-status.ensures;
  quiet = λ is. absurd (by_false c.is_unread.result _ c.is_unread.ensures c.if-is_unread.false is);
  recorded = λ _. c.report_error-status.ensures;
}

pub returns-else-not-quiet : goal.returns-else-not-quiet
returns-else-not-quiet g c = record {
  is_3 = failed_with_3 c.args.ending.now _ c.report_error-status.result c.requires.failed c.report_error-status.ensures;
  quiet = λ is. absurd (by_false c.is_unread.result _ c.is_unread.ensures c.if-is_unread.false is);
  recorded = λ _. c.report_error-status.ensures;
}
