use Rattle.std.proofs.Common.{◌≡◌, ◌≤◌, ◌-◌, length}
use Rattle.dia_ccf.specs.LexerTokens.{tokens_from}
use Rattle.dia_ccf.proofs.lexer.skip_blanks.Given as goal

abbrev pub invariant-loop-len : goal.invariant-loop-len
invariant-loop-len l = record {
  begins : l.from ≤ l.at;
  within : l.at ≤ length l.bytes;
  same : tokens_from l.bytes l.from ≡ tokens_from l.bytes l.at;
}

abbrev pub decreases-loop-len : goal.decreases-loop-len
decreases-loop-len l = length l.bytes - l.at
