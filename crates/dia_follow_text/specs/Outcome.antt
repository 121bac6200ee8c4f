-- What `follow` writes for the lines of a connection, and how it ends.
use Rattle.std.specs.Prelude.{◌≡◌, ℕ, ◌+◌, ◌⊎◌, ◌||◌, IsTrue, Bool, true, false, if◌then◌else◌, List, [], ◌++◌, Option, None, Some, Ok, Err, IsOk}
use Rattle.std.specs.List.{flat_map, fold}
use Rattle.hex.specs.Hex.{decode_of}
use Rattle.dia_terms.specs.Limits.{max_message_text}
use Rattle.dia_io.specs.declared.Exit.{Exit}
use Rattle.dia_io.specs.declared.Exit.TheVariants.{Yes, No, Bad}
use Rattle.dia_io.specs.declared.Input.{Input}
use Rattle.dia_io.specs.Inputs.{Holds, IsOver}
use Rattle.dia_streams.specs.Lines.{AreAnswered, IsAnswered, line_number}
use Rattle.dia_dict.specs.Dictionary.{Dictionary}
use Rattle.dia_follow.specs.declared.End.{End}
use Rattle.dia_follow.specs.declared.Line.{Line}
use Rattle.dia_follow.specs.Connections.{PlainConnection, after, findings_of, new_connection, the_middle}
use Rattle.dia_follow.specs.Reading.{IsSeen}
use Rattle.dia_follow_text.specs.declared.entry.BadLine.{BadLine}
use Rattle.dia_follow_text.specs.declared.entry.BadLine.TheVariants.{TooLong, NotHexadecimal}
use Rattle.dia_follow_text.specs.declared.options.Check.{Check}
use Rattle.dia_follow_text.specs.declared.options.Options.{Options}
use Rattle.dia_follow_text.specs.Answers.{answer_text, bad_line, departs, unanswered}
use Rattle.dia_follow_text.specs.Entries.{PlainEntry, entry_of}
use Rattle.dia_follow_text.specs.Judging.{IsJudgedAs}
use Rattle.dia_follow_text.specs.Notes.{in_order}

-- ---- a line

-- a message that was captured: the end that sent it, its line, whose number isn't looked at, and what `check` reports
pub record Captured : Type 0 where
  pub end : End
  pub line : Line
  pub verdict : List ℕ

-- a line says nothing, or it is refused, or it has a message
pub data PlainLine : Type 0 where
  nothing : PlainLine
  refused : BadLine → PlainLine
  captured : Captured → PlainLine

-- this text of a line has this message
pub record IsCaptured (d : Dictionary) (check : Option Check) (text : List ℕ) (m : Captured) : Type 0 where
  pub digits : List ℕ
  pub entry : entry_of text ≡ Ok (Some (record { end = m.end; time = m.line.time; digits = digits }))
  pub spells : decode_of digits ≡ Ok m.line.bytes.now
  pub seen : IsSeen m.line.bytes.now m.line.seen
  pub judged : IsJudgedAs d check m.line.bytes.now m.line.seen m.line.judged m.verdict

-- the line is refused for this
pub data IsLineRefused (input : Input) (bad : BadLine) : Type 0 where
  too_long : IsOver input max_message_text → bad ≡ TooLong → IsLineRefused input bad
  no_entry : (text : List ℕ) → Holds input max_message_text text → entry_of text ≡ Err bad → IsLineRefused input bad
  no_bytes : (text : List ℕ) (entry : PlainEntry) → Holds input max_message_text text → entry_of text ≡ Ok (Some entry)
      → ¬ IsOk (decode_of entry.digits) → bad ≡ NotHexadecimal → IsLineRefused input bad

-- what a line is
abbrev pub IsLineOf : Dictionary → Option Check → Input → PlainLine → Type 0
IsLineOf d check input nothing = (text : List ℕ) × Holds input max_message_text text × (entry_of text ≡ Ok None)
IsLineOf d check input (refused bad) = IsLineRefused input bad
IsLineOf d check input (captured m) = (text : List ℕ) × Holds input max_message_text text × IsCaptured d check text m

-- ---- all lines

-- after some lines: how many there are, what is known of the connection, whether there was a departure, the answers to these lines,
-- and whether one of them is refused
pub record Progress : Type 0 where
  pub number : ℕ
  pub connection : PlainConnection
  pub departs : Bool
  pub text : List ℕ
  pub refused : Bool

-- a message, by the number of its line
abbrev pub line_at : ℕ → Captured → Line
line_at number m = record m.line { number = number }

abbrev pub answered_line : Dictionary → Bool → ℕ → Progress → PlainLine → Progress
answered_line d json number p nothing = record p { number = number }
answered_line d json number p (refused bad) = record p { number = number; text = p.text ++ bad_line json number bad; refused = true }
answered_line d json number p (captured m) = record {
  number = number;
  connection = after p.connection m.end (line_at number m);
  departs = p.departs || departs (findings_of p.connection m.end (line_at number m));
  text = p.text ++ answer_text json d p.connection m.end (line_at number m) m.verdict;
  refused = false;
}

-- one more line. After one that is refused nothing more is answered
abbrev pub next_line : Dictionary → Bool → Progress → PlainLine → Progress
next_line d json p line = if p.refused then p else answered_line d json (line_number (p.number + 1)) p line

-- before the first line
abbrev pub begun : Bool → Progress
begun middle = record {
  number = 0;
  connection = if middle then the_middle new_connection else new_connection;
  departs = false;
  text = [];
  refused = false;
}

abbrev pub followed : Dictionary → Options → List PlainLine → Progress
followed d options lines = fold (next_line d options.json) (begun options.middle) lines

-- the notes on requests without answer
abbrev pub notes : Dictionary → Bool → PlainConnection → List ℕ
notes d json c = flat_map (λ n. unanswered json d n.0 n.1) (in_order c.initiator.waits c.responder.waits)

-- the answers to all lines
abbrev pub whole_text : Dictionary → Bool → Progress → List ℕ
whole_text d json p = if p.refused then p.text else p.text ++ notes d json p.connection

abbrev pub exit_of : Progress → Exit
exit_of p = if p.refused then Bad else (if p.departs then No else Yes)

-- ---- the text of a connection

-- these lines at the front are all lines, or those up to one that is refused
abbrev pub AreLines : Dictionary → Options → List ℕ → List ℕ → List PlainLine → Type 0
AreLines d options front rest lines = (AreAnswered (IsLineOf d options.check) front lines × IsTrue (followed d options lines).refused)
    ⊎ (IsAnswered (IsLineOf d options.check) front lines × (rest ≡ []))

-- what is written for these bytes, and the exit
pub record IsFollowed (d : Dictionary) (options : Options) (bytes text : List ℕ) (exit : Exit) : Type 0 where
  pub front : List ℕ
  pub rest : List ℕ
  pub lines : List PlainLine
  pub parts : bytes ≡ front ++ rest
  pub are_lines : AreLines d options front rest lines
  pub is_text : text ≡ whole_text d options.json (followed d options lines)
  pub is_exit : exit ≡ exit_of (followed d options lines)
