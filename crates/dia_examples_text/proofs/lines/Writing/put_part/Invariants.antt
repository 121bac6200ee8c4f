use Rattle.std.specs.Prelude.{IsTrue}
use Rattle.dia_examples_text.specs.Vectors.{Writes}
use Rattle.dia_examples_text.proofs.lines.Writing.put_part.Given as goal

abbrev pub invariant-loop-place : goal.invariant-loop-place
invariant-loop-place g l = record {
  sound : ¬ IsTrue (g.S.Sink.has_failed l.sink);
  written : Writes l.self.form (g.B.Book.meaning l.self.book.now) l.self.unknown (g.S.Sink.written l.initial.sink) (g.S.Sink.written l.sink);
}
