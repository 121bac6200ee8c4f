use Rattle.std.proofs.Common.{◌≡◌, [], length}
use Rattle.std.specs.Prelude.{IsTrue}
use Rattle.dia_io.proofs.TextsInPieces.{IsUnderWay}
use Rattle.dia_io.proofs.writing.put_all.Given as goal

abbrev pub invariant-loop-rest : goal.invariant-loop-rest
invariant-loop-rest g l = record {
  sound : ¬ IsTrue (g.S.Sink.has_failed l.sink);
  under_way : IsUnderWay (g.S.Sink.written l.initial.sink) (g.S.Sink.written l.sink) l.fn.text l.rest;
  untouched : l.fn.text ≡ [] → l.sink ≡ l.initial.sink;
}

abbrev pub decreases-loop-rest : goal.decreases-loop-rest
decreases-loop-rest g l = length l.rest
