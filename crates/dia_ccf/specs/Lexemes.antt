-- Tokens with what they are and where they end.
use Rattle.std.specs.Prelude.{◌≡◌, ℕ, ◌<◌, ◌≤◌, Bool, true, false, List, ◌∷◌, length}
use Rattle.dia_ccf.specs.declared.lexemes.Kind.{Kind}
use Rattle.dia_ccf.specs.declared.lexemes.Kind.TheVariants as kinds
use Rattle.dia_ccf.specs.declared.lexemes.Lexeme.{Lexeme}
use Rattle.dia_ccf.specs.Tokens.{Token, Placed, Number, Name, Other}
use Rattle.dia_ccf.specs.LexerTokens.{tokens_from}

abbrev pub kind_of : Token → Kind
kind_of (Number n) = kinds.Number
kind_of (Name text) = kinds.Name
kind_of Other = kinds.Other
kind_of sign = kinds.Sign

abbrev pub is_a_name : Token → Bool
is_a_name (Name text) = true
is_a_name token = false

abbrev pub is_named : Placed → Bool
is_named placed = is_a_name placed.token

-- the first token from a place on
pub record IsLexeme (text : List ℕ) (from : ℕ) (lexeme : Lexeme) : Type 0 where
  pub token : Token
  pub kind : lexeme.kind ≡ kind_of token
  pub tokens : tokens_from text from ≡ record { token = token; at = lexeme.at } ∷ tokens_from text lexeme.end
  pub begins : from ≤ lexeme.at
  pub long : lexeme.at < lexeme.end
  pub within : lexeme.end ≤ length text
