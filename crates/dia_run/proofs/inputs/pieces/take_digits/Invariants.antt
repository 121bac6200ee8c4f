use Rattle.std.proofs.Common.{◌≡◌, ◌≤◌, ◌-◌, length, take}
use Rattle.dia_run.specs.Texts.{digits_of}
use Rattle.dia_run.proofs.inputs.pieces.take_digits.Given as goal

abbrev pub invariant-loop-count : goal.invariant-loop-count
invariant-loop-count l = record {
  digits : take l.count l.digits ≡ digits_of (take l.taken l.text);
  room : l.count ≤ 8192;
  within : l.taken ≤ length l.text;
  some : l.count ≤ l.taken;
}

abbrev pub decreases-loop-count : goal.decreases-loop-count
decreases-loop-count l = length l.text - l.taken
