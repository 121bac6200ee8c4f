use Rattle.std.proofs.Common.{◌≡◌, ◌++◌, string_bytes, take}
use Rattle.std.specs.List.{flat_map}
use Rattle.dia_diff_text.specs.Words.{range_words}
use Rattle.dia_diff_text.proofs.words.push_ranges.Given as goal

abbrev pub invariant-loop-low : goal.invariant-loop-low
invariant-loop-low l = string_bytes l.out ≡ string_bytes l.initial.out ++ flat_map range_words (take l.low-index l.ranges)
