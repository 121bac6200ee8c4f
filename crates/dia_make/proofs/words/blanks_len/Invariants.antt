use Rattle.std.proofs.Common.{◌≡◌, ◌+◌, drop}
use Rattle.std.specs.List.{prefix_len}
use Rattle.dia_text.specs.Words.{is_blank}
use Rattle.dia_make.proofs.words.blanks_len.Given as goal

abbrev pub invariant-loop-index : goal.invariant-loop-index
invariant-loop-index l = prefix_len is_blank l.bytes ≡ l.index + prefix_len is_blank (drop l.index l.bytes)
