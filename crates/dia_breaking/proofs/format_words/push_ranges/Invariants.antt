use Rattle.std.proofs.Common.{◌≡◌, ◌++◌, string_bytes, take}
use Rattle.dia_breaking.specs.Words.{ranges_text}
use Rattle.dia_breaking.proofs.format_words.push_ranges.Given as goal

abbrev pub invariant-loop-low : goal.invariant-loop-low
invariant-loop-low l = string_bytes l.out ≡ string_bytes l.initial.out ++ ranges_text (take l.low-index l.ranges)
