use Rattle.std.proofs.Common.{◌≡◌, ◌+◌, drop}
use Rattle.std.specs.Prelude.{not, ◌==◌}
use Rattle.std.specs.List.{prefix_len}
use Rattle.dia_ccf.proofs.lexer.comment_len.Given as goal

abbrev pub invariant-loop-index : goal.invariant-loop-index
invariant-loop-index l = prefix_len (λ b. not (b == 10)) l.bytes ≡ l.index + prefix_len (λ b. not (b == 10)) (drop l.index l.bytes)
