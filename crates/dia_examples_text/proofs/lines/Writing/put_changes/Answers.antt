use Rattle.dia_examples_text.proofs.Devices.{not_failed}
use Rattle.dia_examples_text.proofs.Vectors.{begun_after, both_written, nothing_written, whole_begun}
use Rattle.dia_examples_text.proofs.lines.Writing.put_changes.Goals as goal

pub loop-change-init : goal.loop-change-init
loop-change-init g c = record {
  sound = c.requires;
  written = nothing_written c.args.self.now.form (g.B.Book.meaning c.args.self.now.book.now) c.args.self.now.unknown (g.S.Sink.written c.args.sink.now);
}

pub loop-change-preserved : goal.loop-change-preserved
loop-change-preserved g c = record {
  sound = not_failed _ _ _ c.in_ok-put_change.ensures.device;
  written = both_written _ _ _ _ _ _ c.loop-change.invariant.written c.in_ok-put_change.ensures.written;
}

pub returns-clause-begun : goal.returns-clause-begun
returns-clause-begun g c = whole_begun _ _ _ _ _ c.loop-change.invariant.written

pub returns-in_err-put_change-clause-begun : goal.returns-in_err-put_change-clause-begun
returns-in_err-put_change-clause-begun g c = begun_after _ _ _ _ _ _ c.loop-change.invariant.written c.in_err-put_change.ensures.begun
