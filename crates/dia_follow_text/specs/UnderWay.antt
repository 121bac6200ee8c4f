-- The lines of a connection that are answered as they are read. `put` is what was put of the answers before.
use Rattle.std.specs.Prelude.{◌≡◌, ℕ, Bool, true, false, List, ◌++◌, Option, None, Some, string_bytes}
use Rattle.dia_streams.specs.Lines.{AreAnswered, IsAnswered, IsLine, IsLineInput}
use Rattle.dia_dict.specs.Dictionary.{Dictionary}
use Rattle.dia_follow_text.specs.declared.answering.Answered.{Answered}
use Rattle.dia_follow_text.specs.declared.answering.State.{State}
use Rattle.dia_follow_text.specs.declared.entry.BadLine.{BadLine}
use Rattle.dia_follow_text.specs.declared.options.Options.{Options}
use Rattle.dia_follow_text.specs.Answers.{bad_line}
use Rattle.dia_follow_text.specs.Outcome.{IsLineOf, PlainLine, Progress, followed, whole_text}

abbrev pub progress_of : ℕ → State → List ℕ → Progress
progress_of number s text = record { number = number; connection = s.connection; departs = s.departs; text = text; refused = false }

-- so far, by what isn't put yet
abbrev pub progress_at : Answered → Progress
progress_at now = progress_of now.number now.state (string_bytes now.text)

-- ... or a line is refused, whose own line isn't added yet
abbrev pub Reaches : Bool → Progress → ℕ → State → List ℕ → Option BadLine → Type 0
Reaches json p number s text None = p ≡ progress_of number s text
Reaches json p number s text (Some bad) = (p.refused ≡ true) × (p.text ≡ text ++ bad_line json number bad)

abbrev pub ReachesNow : Bool → Progress → Answered → Option BadLine → Type 0
ReachesNow json p now bad = Reaches json p now.number now.state (string_bytes now.text) bad

abbrev pub with_put : List ℕ → Progress → Progress
with_put put p = record p { text = put ++ p.text }

-- of the bytes that were read the whole lines were answered, and the rest is the line under way
pub record IsUnderWay (d : Dictionary) (options : Options) (now : Answered) (put read : List ℕ) : Type 0 where
  pub whole : List ℕ
  pub rest : List ℕ
  pub lines : List PlainLine
  pub answered : AreAnswered (IsLineOf d options.check) whole lines
  pub parts : read ≡ whole ++ rest
  pub is_line : IsLine rest
  pub under_way : IsLineInput now.line rest
  pub progress : followed d options lines ≡ with_put put (progress_at now)

-- the last of these lines is refused
abbrev pub IsRefused : Dictionary → Options → Answered → List ℕ → List PlainLine → BadLine → Type 0
IsRefused d options now put lines bad = ((followed d options lines).refused ≡ true)
    × ((followed d options lines).text ≡ put ++ string_bytes now.text ++ bad_line options.json now.number bad)

-- of the bytes that were read a line is refused
pub record IsBroken (d : Dictionary) (options : Options) (now : Answered) (put read : List ℕ) (bad : BadLine) : Type 0 where
  pub front : List ℕ
  pub rest : List ℕ
  pub lines : List PlainLine
  pub answered : AreAnswered (IsLineOf d options.check) front lines
  pub parts : read ≡ front ++ rest
  pub refused : IsRefused d options now put lines bad

abbrev pub HasRead : Dictionary → Options → Answered → List ℕ → List ℕ → Option BadLine → Type 0
HasRead d options now put read None = IsUnderWay d options now put read
HasRead d options now put read (Some bad) = IsBroken d options now put read bad

-- these bytes were read
abbrev pub Reads : Dictionary → Options → Answered → Answered → List ℕ → Option BadLine → Type 0
Reads d options old now bytes bad = (put read : List ℕ) → IsUnderWay d options old put read → HasRead d options now put (read ++ bytes) bad

-- all lines were answered, up to one that is refused
abbrev pub HasLast : Dictionary → Options → Answered → List ℕ → List PlainLine → Option BadLine → Type 0
HasLast d options now put lines None = followed d options lines ≡ with_put put (progress_at now)
HasLast d options now put lines (Some bad) = IsRefused d options now put lines bad

abbrev pub ReadsLast : Dictionary → Options → Answered → Answered → Option BadLine → Type 0
ReadsLast d options old now bad = (put read : List ℕ) → IsUnderWay d options old put read
    → (lines : List PlainLine) × IsAnswered (IsLineOf d options.check) read lines × HasLast d options now put lines bad

-- ... and the notes on requests without answer were added
abbrev pub HasEnded : Dictionary → Options → Answered → List ℕ → List PlainLine → Option BadLine → Type 0
HasEnded d options now put lines None = ((followed d options lines).refused ≡ false) × ((followed d options lines).departs ≡ now.state.departs)
    × (whole_text d options.json (followed d options lines) ≡ put ++ string_bytes now.text)
HasEnded d options now put lines (Some bad) = IsRefused d options now put lines bad

abbrev pub Ends : Dictionary → Options → Answered → Answered → Option BadLine → Type 0
Ends d options old now bad = (put read : List ℕ) → IsUnderWay d options old put read
    → (lines : List PlainLine) × IsAnswered (IsLineOf d options.check) read lines × HasEnded d options now put lines bad
