use Rattle.std.proofs.Common.{◌≡◌, ◌^◌, ◌<◌, take}
use Rattle.dia_follow_text.specs.Times.{value}
use Rattle.dia_follow_text.proofs.times.value.Given as goal

abbrev pub invariant-loop-byte : goal.invariant-loop-byte
invariant-loop-byte l = record {
  value : l.number ≡ value (take l.byte-index l.word);
  small : l.number < 10 ^ l.byte-index;
}
