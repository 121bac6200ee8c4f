use Rattle.std.proofs.Common.{◌≡◌, ◌+◌, drop}
use Rattle.std.specs.List.{prefix_len}
use Rattle.dia_ccf.specs.Names.{is_run_byte}
use Rattle.dia_ccf.proofs.lexer.run_len.Given as goal

abbrev pub invariant-loop-index : goal.invariant-loop-index
invariant-loop-index l = prefix_len is_run_byte l.bytes ≡ l.index + prefix_len is_run_byte (drop l.index l.bytes)
