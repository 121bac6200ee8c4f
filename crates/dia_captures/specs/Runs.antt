-- What a run over many messages puts, how it ends, and its summary, whatever writes its verdicts.
use Rattle.std.specs.Prelude.{◌≡◌, ℕ, List, ◌++◌, Option, map, if◌then◌else◌}
use Rattle.std.specs.List.{flat_map}
use Rattle.std.specs.Io.KnownBytes.{Appends, Consumes}
use Rattle.dia_dict.specs.Dictionary.{Dictionary}
use Rattle.dia_io.specs.declared.Exit.{Exit}
use Rattle.dia_io.specs.declared.Exit.TheVariants.{Yes, No}
use Rattle.dia_io.specs.declared.Input.{Input}
use Rattle.dia_streams.specs.Lines.{IsAnswered}
use Rattle.dia_streams.specs.Streams.{IsStreamRecorded, StillGives}
use Rattle.dia_captures.specs.declared.ended.Ended.{Ended}
use Rattle.dia_captures.specs.declared.summaries.Lines.TheVariants as lines
use Rattle.dia_captures.specs.declared.verdicts.Checked.{Checked}
use Rattle.dia_captures.specs.Counts.{placed_items}
use Rattle.dia_captures.specs.Ending.{ended_of}
use Rattle.dia_captures.specs.Summaries.{IsSummary}
use Rattle.dia_captures.specs.Verdicts.{checked_exit}

-- yes where each message ends with yes, or where some does
abbrev pub each_exit : Ended → Exit
each_exit ended = if ended.each then Yes else No

abbrev pub some_exit : Ended → Exit
some_exit ended = if ended.some then Yes else No

-- each line has a verdict, whose text was put. P says which verdict a line has
pub record AreLinesRecorded {V : Type 0} (P : Input → V → Type 0) (recorded : List V → List ℕ) (exit_of : V → Exit) (ends : Ended → Exit)
    (fed_old fed put_old put : Option (List ℕ)) (exit : Exit) : Type 0 where
  pub bytes : List ℕ
  pub verdicts : List V
  pub consumed : Consumes fed_old fed bytes
  pub answered : IsAnswered P bytes verdicts
  pub is_put : Appends put_old put (recorded verdicts)
  pub is_exit : exit ≡ ends (ended_of (map exit_of verdicts))

-- each message of a stream has a verdict, whose text was put. Not all may have been read
pub record IsStreamPut (P : Option (List ℕ) → Checked → Type 0) (recorded : ℕ × Checked → List ℕ) (fed_old fed put_old put : Option (List ℕ)) (exit : Exit) : Type 0 where
  pub read : List ℕ
  pub verdicts : List (ℕ × Checked)
  pub consumed : Consumes fed_old fed read
  pub answered : (rest : List ℕ) → StillGives fed rest → IsStreamRecorded P (read ++ rest) verdicts
  pub is_put : Appends put_old put (flat_map recorded verdicts)
  pub is_exit : exit ≡ each_exit (ended_of (map (λ (v : ℕ × Checked). checked_exit v.1) verdicts))

-- the summary of these verdicts
pub record IsStreamSummed (P : Option (List ℕ) → Checked → Type 0) (recorded : ℕ × Checked → List ℕ) (d : Dictionary)
    (fed_old fed put_old put : Option (List ℕ)) (text : List ℕ) : Type 0 where
  pub read : List ℕ
  pub verdicts : List (ℕ × Checked)
  pub consumed : Consumes fed_old fed read
  pub answered : (rest : List ℕ) → StillGives fed rest → IsStreamRecorded P (read ++ rest) verdicts
  pub is_put : Appends put_old put (flat_map recorded verdicts)
  pub summary : IsSummary d lines.Placed (placed_items verdicts) text
