use Rattle.dia_examples_text.proofs.Devices.{not_failed}
use Rattle.dia_examples_text.proofs.Vectors.{begun_after, both_written, nothing_written, whole_begun}
use Rattle.dia_examples_text.proofs.lines.Writing.put_part.Goals as goal

pub loop-place-init : goal.loop-place-init
loop-place-init g c = record {
  sound = not_failed _ _ _ c.in_ok-put_changes.ensures.device;
  written = nothing_written c.args.self.now.form (g.B.Book.meaning c.args.self.now.book.now) c.args.self.now.unknown (g.S.Sink.written c.put_changes.new.sink);
}

pub loop-place-preserved : goal.loop-place-preserved
loop-place-preserved g c = record {
  sound = not_failed _ _ _ c.in_ok-put_level.ensures.device;
  written = both_written _ _ _ _ _ _ c.loop-place.invariant.written c.in_ok-put_level.ensures.written;
}

pub returns-clause-written : goal.returns-clause-written
returns-clause-written g c = both_written _ _ _ _ _ _ c.in_ok-put_changes.ensures.written c.loop-place.invariant.written

pub returns-clause-begun : goal.returns-clause-begun
returns-clause-begun g c = whole_begun _ _ _ _ _ (both_written _ _ _ _ _ _ c.in_ok-put_changes.ensures.written c.loop-place.invariant.written)

pub returns-in_err-put_level-clause-begun : goal.returns-in_err-put_level-clause-begun
returns-in_err-put_level-clause-begun g c =
    begun_after _ _ _ _ _ _ (both_written _ _ _ _ _ _ c.in_ok-put_changes.ensures.written c.loop-place.invariant.written) c.in_err-put_level.ensures.begun
