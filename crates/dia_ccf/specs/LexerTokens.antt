-- Which tokens of the text the lexer's tokens are.
use Rattle.std.specs.Prelude.{◌≡◌, ℕ, ◌+◌, ◌<◌, ◌≤◌, min, List, [], ◌∷◌, length, drop, map, Option, Some, None}
use Rattle.dia_ccf.specs.Limits.{max_number}
use Rattle.dia_ccf.specs.declared.lexer.Token.{Token as LexerToken}
use Rattle.dia_ccf.specs.declared.lexer.Token.TheVariants as lexer
use Rattle.dia_ccf.specs.declared.lexer.Sign.{Sign}
use Rattle.dia_ccf.specs.declared.lexer.Sign.TheVariants as signs
use Rattle.dia_ccf.specs.declared.lexer.Lexed.{Lexed}
use Rattle.dia_ccf.specs.Tokens.{Token, Less, Greater, Open_brace, Close_brace, Open_bracket, Close_bracket, Open_parenthesis, Close_parenthesis}
use Rattle.dia_ccf.specs.Tokens.{Star, Comma, Dots, Assign, Colon, Declares, Number, Name, Other, Placed, tokens_after}

-- a number above the limit counts as the first such number
abbrev pub capped : Token → Token
capped (Number n) = Number (min n (max_number + 1))
capped token = token

abbrev pub shown_sign : Sign → Token
shown_sign signs.Less = Less
shown_sign signs.Greater = Greater
shown_sign signs.OpenBrace = Open_brace
shown_sign signs.CloseBrace = Close_brace
shown_sign signs.OpenBracket = Open_bracket
shown_sign signs.CloseBracket = Close_bracket
shown_sign signs.OpenParenthesis = Open_parenthesis
shown_sign signs.CloseParenthesis = Close_parenthesis
shown_sign signs.Star = Star
shown_sign signs.Comma = Comma
shown_sign signs.Dots = Dots
shown_sign signs.Assign = Assign
shown_sign signs.Colon = Colon
shown_sign signs.Declares = Declares

-- the token that one of the lexer is
abbrev pub shown : LexerToken → Token
shown (lexer.Sign sign) = shown_sign sign
shown (lexer.Number n) = Number n
shown lexer.TooGreat = Number (max_number + 1)
shown (lexer.Name text) = Name text.now
shown lexer.Other = Other

-- the tokens of the text from a place on
abbrev pub tokens_from : List ℕ → ℕ → List Placed
tokens_from text at = tokens_after 0 at (drop at text)

-- the first token from a place on: what it is, where it begins and where it ends
pub record IsNext (text : List ℕ) (from : ℕ) (found : Lexed) : Type 0 where
  pub token : Token
  pub same : capped token ≡ shown found.token
  pub first : tokens_from text from ≡ tokens_from text found.at
  pub rest : tokens_from text found.at ≡ record { token = token; at = found.at } ∷ tokens_from text found.end
  pub begins : from ≤ found.at
  pub long : found.at < found.end
  pub within : found.end ≤ length text

-- the same, as the reader sees them
abbrev pub left_from : List ℕ → ℕ → List Token
left_from text at = map (λ placed. capped placed.token) (tokens_from text at)

abbrev pub ahead : Option LexerToken → List Token
ahead None = []
ahead (Some token) = shown token ∷ []

-- the token ahead and the rest; at the end of the text nothing is ahead
abbrev pub sees : Option LexerToken → List Token → List Token
sees None rest = []
sees (Some token) rest = shown token ∷ rest
