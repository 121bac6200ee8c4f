use Rattle.std.proofs.Common.{take, true}
use Rattle.dia_streams.specs.StreamUnderWay.{Takes}
use Rattle.dia_streams.proofs.digits.Digits.take_each.Given as goal

abbrev pub invariant-loop-byte : goal.invariant-loop-byte
invariant-loop-byte l = record {
  takes : Takes true l.initial.self.half l.self.half l.initial.self.bytes.items l.self.bytes.items (take l.byte-index l.text);
}
