-- The vectors that `examples` writes.
use Rattle.std.specs.Prelude.{◌≡◌, ◌⊎◌, ⊤, ℕ, Bool, true, false, List, [], ◌∷◌, ◌++◌, Option, Ok, All, codes}
use Rattle.std.specs.List.{concat}
use Rattle.std.specs.Fmt.{decimal}
use Rattle.std.specs.Io.KnownBytes.{Appends}
use Rattle.hex.specs.Hex.{encode_lower}
use Rattle.dia_io.specs.declared.Exit.{Exit}
use Rattle.dia_io.specs.Writing.{AppendsFront}
use Rattle.dia_terms.specs.declared.Unknown.{Unknown}
use Rattle.dia_terms.specs.declared.Levels.TheVariants.{Any}
use Rattle.dia_dict.specs.Dictionary.{Dictionary}
use Rattle.dia_run.specs.Outcome.{IsJudged}
use Rattle.dia_run.specs.Texts.{line}
use Rattle.dia_text.specs.Made.{made}
use Rattle.dia_examples_text.specs.declared.forms.Form.{Form}
use Rattle.dia_examples_text.specs.declared.forms.Form.TheVariants.{Columns, Text, Json}

-- `check` writes these words of the message, and a line feed
abbrev pub IsVerdictOf : Dictionary → Unknown → List ℕ → List ℕ → Type 0
IsVerdictOf d u message words = (exit : Exit) × IsJudged u Any d message (line words) exit

-- what a line has: the words of a verdict, what the vector is, and a message
abbrev pub columns : (words path what message : List ℕ) → List ℕ
columns words path what message = words ++ 9 ∷ path ++ codes ": " ++ what ++ 9 ∷ line (encode_lower message)

-- a line: the verdict on a message, what the vector is, and the message in hexadecimal digits, with a tab between two of them
pub record IsColumns (d : Dictionary) (u : Unknown) (text : List ℕ) : Type 0 where
  pub message : List ℕ
  pub words : List ℕ
  pub path : List ℕ
  pub what : List ℕ
  pub judged : IsVerdictOf d u message words
  pub is : text ≡ columns words path what message

-- a text that `make` reads as the message, or a comment with its hexadecimal digits
abbrev pub IsBody : Dictionary → List ℕ → List ℕ → Type 0
IsBody d message body = (made d body ≡ Ok message) ⊎ (body ≡ line (codes "# " ++ encode_lower message))

-- an empty line is before each block but the first
abbrev pub before : Bool → List ℕ
before true = []
before false = 10 ∷ []

-- the comments of a block
abbrev pub heading : Bool → ℕ → (words path what : List ℕ) → List ℕ
heading is_first number words path what =
    before is_first ++ codes "# " ++ decimal number ++ codes " " ++ line words ++ codes "# " ++ path ++ codes ": " ++ line what

-- a block: the number of the vector and the verdict on a message in a comment, what the vector is in another one, and the message
pub record IsBlock (d : Dictionary) (u : Unknown) (text : List ℕ) : Type 0 where
  pub message : List ℕ
  pub words : List ℕ
  pub is_first : Bool
  pub number : ℕ
  pub path : List ℕ
  pub what : List ℕ
  pub body : List ℕ
  pub judged : IsVerdictOf d u message words
  pub read : IsBody d message body
  pub is : text ≡ heading is_first number words path what ++ body

-- a vector in a form: objects are tested, and not stated here
abbrev pub IsVector : Form → Dictionary → Unknown → List ℕ → Type 0
IsVector Columns d u text = IsColumns d u text
IsVector Text d u text = IsBlock d u text
IsVector Json d u text = ⊤

-- vectors, one after the other
abbrev pub AreVectors : Form → Dictionary → Unknown → List ℕ → Type 0
AreVectors form d u text = (texts : List (List ℕ)) × All (IsVector form d u) texts × (text ≡ concat texts)

-- vectors were written
abbrev pub Writes : Form → Dictionary → Unknown → Option (List ℕ) → Option (List ℕ) → Type 0
Writes form d u old new = (text : List ℕ) × AreVectors form d u text × Appends old new text

-- a prefix of vectors was written
abbrev pub Begins : Form → Dictionary → Unknown → Option (List ℕ) → Option (List ℕ) → Type 0
Begins form d u old new = (text : List ℕ) × AreVectors form d u text × AppendsFront old new text
