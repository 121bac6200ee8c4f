use Rattle.std.proofs.Common.{◌≡◌, ◌++◌, string_bytes, take}
use Rattle.dia_breaking.specs.LineParts.{more_numbers}
use Rattle.dia_breaking.proofs.sent_numbers.push_more_numbers.Given as goal

abbrev pub invariant-loop-other : goal.invariant-loop-other
invariant-loop-other l = string_bytes l.out ≡ string_bytes l.initial.out ++ more_numbers (take l.other-index l.others)
