-- Lines that are answered as they are read.
use Rattle.std.specs.Prelude.{◌≡◌, ℕ, suc, ◌≤◌, List, [], ◌++◌, Option, length, string_bytes}
use Rattle.std.specs.Io.KnownBytes.{Appends, Consumes}
use Rattle.dia_io.specs.declared.Input.{Input}
use Rattle.dia_streams.specs.declared.answered.Answered.{Answered}
use Rattle.dia_streams.specs.FeedToSink.{Sees}
use Rattle.dia_streams.specs.Lines.{AreAnswered, IsAnswered, IsLine, IsLineInput, line_number, recorded_from, recorded_lines}

-- of the bytes that were read the whole lines have these verdicts, and the rest is the line under way
pub record IsUnderWay {V : Type 0} (P : Input → V → Type 0) (now : Answered) (read : List ℕ) (verdicts : List V) : Type 0 where
  pub lines : List ℕ
  pub rest : List ℕ
  pub answered : AreAnswered P lines verdicts
  pub parts : read ≡ lines ++ rest
  pub is_line : IsLine rest
  pub whole : IsLineInput now.line rest
  pub counted : now.count ≡ line_number (length verdicts)

-- the bytes were read, and these verdicts were reported and seen
pub record Reads {V W : Type 0} (P : Input → V → Type 0) (recorded : ℕ → V → List ℕ) (saw : W → List V → Type 0)
    (old now : Answered) (watch_old watch : W) (bytes : List ℕ) (more : List V) : Type 0 where
  pub text : (read : List ℕ) (verdicts : List V) → IsUnderWay P old read verdicts
      → string_bytes now.text ≡ string_bytes old.text ++ recorded_from recorded (suc (length verdicts)) more
  pub seen : Sees saw watch_old watch more
  pub reads : (read : List ℕ) (verdicts : List V) → IsUnderWay P old read verdicts → IsUnderWay P now (read ++ bytes) (verdicts ++ more)

-- the end was read, and these verdicts were reported and seen
pub record Ends {V W : Type 0} (P : Input → V → Type 0) (recorded : ℕ → V → List ℕ) (saw : W → List V → Type 0)
    (old now : Answered) (watch_old watch : W) (more : List V) : Type 0 where
  pub text : (read : List ℕ) (verdicts : List V) → IsUnderWay P old read verdicts
      → string_bytes now.text ≡ string_bytes old.text ++ recorded_from recorded (suc (length verdicts)) more
  pub seen : Sees saw watch_old watch more
  pub ends : (read : List ℕ) (verdicts : List V) → IsUnderWay P old read verdicts → IsAnswered P read (verdicts ++ more)

-- so many pieces were read from the feed and answered into the sink
pub record AreRead {V W : Type 0} (P : Input → V → Type 0) (recorded : ℕ → V → List ℕ) (saw : W → List V → Type 0)
    (fed_old fed put_old put : Option (List ℕ)) (watch_old watch : W) (now : Answered) (pieces : ℕ) : Type 0 where
  pub read : List ℕ
  pub verdicts : List V
  pub consumed : Consumes fed_old fed read
  pub under_way : IsUnderWay P now read verdicts
  pub is_put : Appends put_old put (recorded_lines recorded verdicts)
  pub seen : Sees saw watch_old watch verdicts
  pub nothing : string_bytes now.text ≡ []
  pub counted : pieces ≤ length read
