use Rattle.std.proofs.Common.{◌≡◌, length}
use Rattle.dia_streams.proofs.PairsDecoded.{AreDecoded}
use Rattle.dia_streams.proofs.pairs.decode_pairs.Given as goal

abbrev pub invariant-pairs : goal.invariant-pairs
invariant-pairs l = record {
  long : length l.bytes ≡ length l.fn.bytes;
  decoded : AreDecoded l.digits l.bytes l.i l.seen;
}
