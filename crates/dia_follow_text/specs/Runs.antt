-- `follow` from a feed into a sink: what was put of the answers.
use Rattle.std.specs.Prelude.{◌≡◌, ℕ, ◌⊎◌, Bool, true, if◌then◌else◌, List, [], ◌++◌, Option, None, Some, string_bytes}
use Rattle.std.specs.Io.KnownBytes.{Appends, Consumes, IsAtEnd}
use Rattle.dia_io.specs.declared.Exit.{Exit}
use Rattle.dia_io.specs.declared.Exit.TheVariants.{Yes, No}
use Rattle.dia_io.specs.declared.Input.{Input}
use Rattle.dia_io.specs.Writing.{AppendsFront}
use Rattle.dia_streams.specs.Lines.{AreAnswered, IsAnswered}
use Rattle.dia_dict.specs.Dictionary.{Dictionary}
use Rattle.dia_run.specs.Texts.{IsDictionaryText}
use Rattle.dia_follow_text.specs.declared.answering.Answered.{Answered}
use Rattle.dia_follow_text.specs.declared.entry.BadLine.{BadLine}
use Rattle.dia_follow_text.specs.declared.options.Options.{Options}
use Rattle.dia_follow_text.specs.declared.running.Progress.{Progress}
use Rattle.dia_follow_text.specs.declared.running.Progress.TheVariants.{More, Done}
use Rattle.dia_follow_text.specs.declared.running.Progress.TheVariants as progress
use Rattle.dia_follow_text.specs.Answers.{bad_line}
use Rattle.dia_follow_text.specs.FollowOutcome.{IsDictionaryRefused, IsFollowOutcome}
use Rattle.dia_follow_text.specs.Outcome.{IsFollowed, IsLineOf, PlainLine, followed, whole_text}
use Rattle.dia_follow_text.specs.UnderWay.{IsUnderWay}

-- these bytes were read, and the text for them was put
pub record AreFollowed (options : Options) (dictionary : Input) (fed_old fed put_old put : Option (List ℕ)) (exit : Exit) : Type 0 where
  pub bytes : List ℕ
  pub text : List ℕ
  pub consumed : Consumes fed_old fed bytes
  pub outcome : IsFollowOutcome options dictionary bytes text exit
  pub is_put : Appends put_old put text

-- the answer to all bytes that a feed has was put, however they come
abbrev pub IsAnswerPut : Options → Input → (fed_old put_old put : Option (List ℕ)) → Exit → Type 0
IsAnswerPut options dictionary fed_old put_old put exit = (bytes : List ℕ) → fed_old ≡ Some bytes
    → (text : List ℕ) × IsFollowOutcome options dictionary bytes text exit × Appends put_old put text

-- the text for lines at the front of what was read, or, at the end of the feed, for all lines
abbrev pub IsTextOf : Dictionary → Options → Option (List ℕ) → (front rest : List ℕ) → List PlainLine → List ℕ → Type 0
IsTextOf d options fed front rest lines text =
    (AreAnswered (IsLineOf d options.check) front lines × (text ≡ (followed d options lines).text))
    ⊎ (IsAtEnd fed × (rest ≡ []) × IsAnswered (IsLineOf d options.check) front lines × (text ≡ whole_text d options.json (followed d options lines)))

-- a prefix of it was put
pub record FrontFollowed (d : Dictionary) (options : Options) (fed_old fed put_old put : Option (List ℕ)) : Type 0 where
  pub front : List ℕ
  pub rest : List ℕ
  pub lines : List PlainLine
  pub text : List ℕ
  pub consumed : Consumes fed_old fed (front ++ rest)
  pub is_text : IsTextOf d options fed front rest lines text
  pub is_put : AppendsFront put_old put text

-- the line of a dictionary that is refused was put
abbrev pub IsRefusalPut : Options → Input → (put_old put : Option (List ℕ)) → Exit → Type 0
IsRefusalPut options dictionary put_old put exit = (text : List ℕ) × IsDictionaryRefused options.json dictionary text exit × Appends put_old put text

-- a prefix of it was put, or nothing
abbrev pub IsRefusalBegun : Options → Input → (put_old put : Option (List ℕ)) → Type 0
IsRefusalBegun options dictionary put_old put =
    ((text : List ℕ) × (exit : Exit) × IsDictionaryRefused options.json dictionary text exit × AppendsFront put_old put text)
    ⊎ Appends put_old put []

-- a prefix of what `follow` writes was put
abbrev pub IsFollowBegun : Options → Input → (fed_old fed put_old put : Option (List ℕ)) → Type 0
IsFollowBegun options dictionary fed_old fed put_old put =
    ((d : Dictionary) × IsDictionaryText dictionary d × FrontFollowed d options fed_old fed put_old put)
    ⊎ (Consumes fed_old fed [] × IsRefusalBegun options dictionary put_old put)

-- ---- as it goes

-- the answers to what was read were put
pub record AreRead (d : Dictionary) (options : Options) (fed_old fed put_old put : Option (List ℕ)) (now : Answered) : Type 0 where
  pub read : List ℕ
  pub written : List ℕ
  pub consumed : Consumes fed_old fed read
  pub under_way : IsUnderWay d options now written read
  pub is_put : Appends put_old put written
  pub nothing : string_bytes now.text ≡ []

-- what a piece comes to
abbrev pub after_end : Option BadLine → Progress
after_end None = Done
after_end (Some bad) = progress.Bad bad

abbrev pub after_piece : Option BadLine → Progress
after_piece None = More
after_piece (Some bad) = progress.Bad bad

-- a line is refused, and all before it was put
pub record AreRefused (d : Dictionary) (options : Options) (fed_old fed put_old put : Option (List ℕ)) (number : ℕ) (bad : BadLine) : Type 0 where
  pub front : List ℕ
  pub rest : List ℕ
  pub lines : List PlainLine
  pub written : List ℕ
  pub consumed : Consumes fed_old fed (front ++ rest)
  pub are_lines : AreAnswered (IsLineOf d options.check) front lines ⊎ (IsAtEnd fed × (rest ≡ []) × IsAnswered (IsLineOf d options.check) front lines)
  pub refused : (followed d options lines).refused ≡ true
  pub is_text : (followed d options lines).text ≡ written ++ bad_line options.json number bad
  pub is_put : Appends put_old put written

abbrev pub exit_by : Bool → Exit
exit_by departs = if departs then No else Yes

-- all was put. What the feed has after a line that is refused makes no difference
pub record AreEnded (d : Dictionary) (options : Options) (fed_old fed put_old put : Option (List ℕ)) (exit : Exit) : Type 0 where
  pub bytes : List ℕ
  pub text : List ℕ
  pub consumed : Consumes fed_old fed bytes
  pub outcome : IsFollowed d options bytes text exit
  pub whole : (all : List ℕ) → fed_old ≡ Some all → IsFollowed d options all text exit
  pub is_put : Appends put_old put text
