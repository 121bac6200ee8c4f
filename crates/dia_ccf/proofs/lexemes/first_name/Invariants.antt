use Rattle.std.proofs.Common.{◌≡◌, ◌-◌, length}
use Rattle.std.specs.List.{find}
use Rattle.dia_ccf.specs.LexerTokens.{tokens_from}
use Rattle.dia_ccf.specs.Lexemes.{is_named}
use Rattle.dia_ccf.proofs.lexemes.first_name.Given as goal

abbrev pub invariant-loop-lexeme : goal.invariant-loop-lexeme
invariant-loop-lexeme l = record {
  same : find is_named (tokens_from l.text l.from) ≡ find is_named (tokens_from l.text l.at);
}

abbrev pub decreases-loop-lexeme : goal.decreases-loop-lexeme
decreases-loop-lexeme l = length l.text - l.at
