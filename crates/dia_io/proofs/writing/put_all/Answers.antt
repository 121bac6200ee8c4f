use Rattle.std.proofs.Common.{inl, inr}
use Rattle.dia_io.proofs.TextsInPieces.{taken, no_rest}
use Rattle.dia_io.proofs.writing.put_all.Goals as goal

pub loop-rest-preserved : goal.loop-rest-preserved
loop-rest-preserved g c = record {
  sound = λ failed. elim (c.in_ok-count.ensures.failed.0 failed) [ inl h ↦ c.loop-rest.invariant.sound h | inr h ↦ absurd cc ];
  under_way = taken _ _ _ _ _ _ c.loop-rest.invariant.under_way c.in_ok-count.ensures.bytes;
  untouched = λ empty. let none = no_rest _ _ _ _ c.loop-rest.invariant.under_way empty in absurd cc;
}
