-- The lines of a text and their verdicts. P says which verdict a line has.
use Rattle.std.specs.Prelude.{◌≡◌, ◌≢◌, ℕ, suc, ◌<◌, ◌⊎◌, min, List, [], ◌∷◌, ◌++◌, length}
use Rattle.std.specs.List.{All}
use Rattle.dia_io.specs.declared.Input.{Input}
use Rattle.dia_io.specs.Inputs.{IsWhole}
use Rattle.dia_terms.specs.Limits.{max_message_text}

abbrev pub line_feed : ℕ
line_feed = 10

-- no byte of a line is a line feed
abbrev pub IsLine : List ℕ → Type 0
IsLine bytes = All (λ c. c ≢ line_feed) bytes

-- the input is this line, or the line is above the limit of a message's text
abbrev pub IsLineInput : Input → List ℕ → Type 0
IsLineInput input bytes = IsWhole input max_message_text bytes

-- these are whole lines, each with its line feed, and these are their verdicts
pub data AreAnswered {V : Type 0} (P : Input → V → Type 0) : (lines : List ℕ) → List V → Type 0 where
  none : AreAnswered P [] []
  one_more : {lines : List ℕ} {verdicts : List V} (lines_before : List ℕ) (verdicts_before : List V)
      (bytes : List ℕ) (input : Input) (verdict : V) → AreAnswered P lines_before verdicts_before
      → IsLine bytes → IsLineInput input bytes → P input verdict
      → lines ≡ lines_before ++ (bytes ++ line_feed ∷ []) → verdicts ≡ verdicts_before ++ verdict ∷ []
      → AreAnswered P lines verdicts

-- after the last line feed there are bytes
pub record EndsInLine (bytes : List ℕ) : Type 0 where
  pub front : List ℕ
  pub line : List ℕ
  pub parts : bytes ≡ front ++ line
  pub some : 0 < length line
  pub is_line : IsLine line

-- these are the verdicts on all lines of the bytes. The last one may lack its line feed
abbrev pub IsAnswered : {V : Type 0} → (Input → V → Type 0) → List ℕ → List V → Type 0
IsAnswered P bytes verdicts = AreAnswered P bytes verdicts
    ⊎ (EndsInLine bytes × AreAnswered P (bytes ++ line_feed ∷ []) verdicts)

-- ---- what is reported of them, after the numbers of their lines

-- lines are numbered from 1. All lines after the one with the greatest number of 64 bits have this number, too
abbrev pub line_number : ℕ → ℕ
line_number n = min n 18446744073709551615

-- what is reported of these verdicts, the first of which is on the n-th line
abbrev pub recorded_from : {V : Type 0} → (ℕ → V → List ℕ) → ℕ → List V → List ℕ
recorded_from recorded n [] = []
recorded_from recorded n (v ∷ vs) = recorded (line_number n) v ++ recorded_from recorded (suc n) vs

-- what is reported of the verdicts on all lines
abbrev pub recorded_lines : {V : Type 0} → (ℕ → V → List ℕ) → List V → List ℕ
recorded_lines recorded verdicts = recorded_from recorded 1 verdicts

-- ---- one answer

-- a line has one verdict
abbrev pub LineHasOneAnswer : {V : Type 0} → (Input → V → Type 0) → Type 0
LineHasOneAnswer {V} P = (line : List ℕ) (a b : Input) (verdict other : V) → IsLineInput a line → IsLineInput b line
    → P a verdict → P b other → verdict ≡ other

-- a text has one list of verdicts
abbrev pub TextHasOneAnswer : {V : Type 0} → (Input → V → Type 0) → Type 0
TextHasOneAnswer {V} P = (bytes : List ℕ) (verdicts others : List V) → IsAnswered P bytes verdicts → IsAnswered P bytes others
    → verdicts ≡ others
