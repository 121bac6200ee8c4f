-- The piece at the front of a text, one test after the other.
use Rattle.std.specs.Prelude.{ℕ, ◌+◌, Bool, false, ◌||◌, ◌==◌, if◌then◌else◌, List, [], ◌∷◌, length, Option, Some, None, take_while}
use Rattle.dia_ccf.specs.Names.{is_run_byte}
use Rattle.dia_ccf.specs.Tokens.{Piece, Less, Greater, Open_brace, Close_brace, Open_bracket, Close_bracket, Open_parenthesis}
use Rattle.dia_ccf.specs.Tokens.{Close_parenthesis, Star, Comma, Colon, Other, is_white, sign, run_token, piece}

-- the piece at the front, if the text is not empty
abbrev pub front : List ℕ → Option Piece
front [] = None
front (c ∷ rest) = Some (piece c rest)

-- the bytes begin with white space or a comment
abbrev pub begins_blank : List ℕ → Bool
begins_blank [] = false
begins_blank (c ∷ rest) = is_white c || c == 59

abbrev pub blank : ℕ → Piece
blank len = record { token = None; len = len }

-- the piece where no sign is
abbrev pub run_piece : ℕ → List ℕ → Piece
run_piece c rest = if is_run_byte c then sign (run_token (c ∷ take_while is_run_byte rest)) (1 + length (take_while is_run_byte rest)) else sign Other 1

-- the piece where no sign of several bytes is
abbrev pub byte_piece : ℕ → List ℕ → Piece
byte_piece c rest =
    if c == 58 then sign Colon 1
    else if c == 60 then sign Less 1
    else if c == 62 then sign Greater 1
    else if c == 123 then sign Open_brace 1
    else if c == 125 then sign Close_brace 1
    else if c == 91 then sign Open_bracket 1
    else if c == 93 then sign Close_bracket 1
    else if c == 40 then sign Open_parenthesis 1
    else if c == 41 then sign Close_parenthesis 1
    else if c == 42 then sign Star 1
    else if c == 44 then sign Comma 1
    else run_piece c rest

abbrev pub run_front : List ℕ → Option Piece
run_front [] = None
run_front (c ∷ rest) = Some (run_piece c rest)
