-- What is written of all faults of a message.
use Rattle.std.specs.Prelude.{◌≡◌, ℕ, ◌<◌, Bool, List, [], ◌++◌, flat_map, length, map, take, nat_lt, Ok, Err, codes, if◌then◌else◌}
use Rattle.dia_dict.specs.Dictionary.{Dictionary}
use Rattle.dia_terms.specs.declared.Unknown.{Unknown}
use Rattle.dia_terms.specs.declared.Levels.{Levels}
use Rattle.dia_valid.specs.Valid.{IsValidOf}
use Rattle.dia_check.specs.declared.Fault.{Fault}
use Rattle.dia_check.specs.declared.Refusal.{Refusal}
use Rattle.dia_check.specs.declared.Selected.{Selected}
use Rattle.dia_check.specs.Walks.{Found, fault_of}
use Rattle.dia_faults.specs.Messages.{AreAll, IsUnlisted}
use Rattle.dia_io.specs.declared.Exit.{Exit}
use Rattle.dia_io.specs.declared.Exit.TheVariants.{No}
use Rattle.dia_run.specs.Texts.{line}
use Rattle.dia_run.specs.Verdict.{IsVerdict, fault_line}

abbrev pub fault_lines : Dictionary → List Fault → List ℕ
fault_lines d fs = flat_map (fault_line d) fs

abbrev pub more_line : Bool → List ℕ
more_line more = if more then line (codes "more") else []

-- the line of a valid message, or of bytes that are no whole one; or a line for each fault, as many as were asked for
pub data IsAllRecorded (d : Dictionary) (u : Unknown) (levels : Levels) (most : ℕ) (bytes : List ℕ) (text : List ℕ) (exit : Exit) : Type 0 where
  valid : (s : Selected) → IsValidOf d u levels bytes s.def → IsVerdict d (Ok s) text exit → IsAllRecorded d u levels most bytes text exit
  faults : (all : List Found) → AreAll d u levels bytes all → 0 < length all
      → text ≡ fault_lines d (take most (map fault_of all)) ++ more_line (nat_lt most (length (map fault_of all))) → exit ≡ No → IsAllRecorded d u levels most bytes text exit
  unlisted : (r : Refusal) → IsUnlisted bytes r → IsVerdict d (Err r) text exit → IsAllRecorded d u levels most bytes text exit
