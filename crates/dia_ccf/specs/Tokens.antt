-- The tokens of a dictionary text.
use Rattle.std.specs.Prelude.{ℕ, zero, suc, ◌+◌, ◌-◌, nat_eq, not, ◌==◌, if◌then◌else◌, List, [], ◌∷◌, length, take, map, count_by, Option, Some, None, codes, take_while}
use Rattle.std.specs.List.{list_all, starts_with}
use Rattle.std.specs.Char.{is_ascii_digit}
use Rattle.std.specs.Str.Parse.{digits_value}
pub use Rattle.dia_terms.specs.Texts.{is_white}
use Rattle.dia_ccf.specs.Names.{is_run_byte, is_name_run}

pub data Token : Type 0 where
  Less : Token
  Greater : Token
  Open_brace : Token
  Close_brace : Token
  Open_bracket : Token
  Close_bracket : Token
  Open_parenthesis : Token
  Close_parenthesis : Token
  Star : Token
  Comma : Token
  Dots : Token
  Assign : Token
  Colon : Token
  Declares : Token
  Number : (value : ℕ) → Token
  Name : (text : List ℕ) → Token
  Other : Token

-- a token and how many bytes precede it
pub record Placed : Type 0 where
  pub token : Token
  pub at : ℕ

-- the first piece of bytes that are not empty: the token, if it is one, and its length
pub record Piece : Type 0 where
  pub token : Option Token
  pub len : ℕ

-- a run of digits is a number, and one that a name can be is a name
abbrev pub run_token : List ℕ → Token
run_token run = if list_all is_ascii_digit run then Number (digits_value 10 run) else if is_name_run run then Name run else Other

abbrev pub sign : Token → ℕ → Piece
sign token len = record { token = Some token; len = len }

-- the piece at the front: white space, a comment up to its line feed, a sign, or the longest run
abbrev pub piece : ℕ → List ℕ → Piece
piece c rest =
    if is_white c then record { token = None; len = 1 }
    else if c == 59 then record { token = None; len = 1 + length (take_while (λ b. not (b == 10)) rest) }
    else if starts_with nat_eq (c ∷ rest) (codes "%avp") then sign Declares 4
    else if starts_with nat_eq (c ∷ rest) (codes "::=") then sign Assign 3
    else if starts_with nat_eq (c ∷ rest) (codes "..") then sign Dots 2
    else if c == 58 then sign Colon 1
    else if c == 60 then sign Less 1
    else if c == 62 then sign Greater 1
    else if c == 123 then sign Open_brace 1
    else if c == 125 then sign Close_brace 1
    else if c == 91 then sign Open_bracket 1
    else if c == 93 then sign Close_bracket 1
    else if c == 40 then sign Open_parenthesis 1
    else if c == 41 then sign Close_parenthesis 1
    else if c == 42 then sign Star 1
    else if c == 44 then sign Comma 1
    else if is_run_byte c then sign (run_token (c ∷ take_while is_run_byte rest)) (1 + length (take_while is_run_byte rest))
    else sign Other 1

abbrev pub placed : ℕ → Option Token → List Placed → List Placed
placed at None tokens = tokens
placed at (Some token) tokens = record { token = token; at = at } ∷ tokens

-- the tokens from a place on, where the first bytes belong to a piece before it
abbrev pub tokens_after : ℕ → ℕ → List ℕ → List Placed
tokens_after skip at [] = []
tokens_after (suc skip) at (c ∷ rest) = tokens_after skip (at + 1) rest
tokens_after zero at (c ∷ rest) = placed at (piece c rest).token (tokens_after ((piece c rest).len - 1) (at + 1) rest)

-- the pieces of the text one after the other
abbrev pub placed_tokens : List ℕ → List Placed
placed_tokens text = tokens_after 0 0 text

abbrev pub tokens : List ℕ → List Token
tokens text = map (λ p. p.token) (placed_tokens text)

-- 1 and the number of line feeds before a place
abbrev pub line_at : List ℕ → ℕ → ℕ
line_at text at = 1 + count_by (λ c. c == 10) (take at text)
