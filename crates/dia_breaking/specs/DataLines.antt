-- Which line reports data that break.
use Rattle.std.specs.Prelude.{◌≡◌, ◌⊎◌, ◌↔◌, Some, None, IsSome}
use Rattle.dia_wire.specs.declared.Key.{Key}
use Rattle.dia_breaking_data.specs.declared.short_data.Witness.{Witness}
use Rattle.dia_breaking_avps.specs.Breaks.{IsDataBreak}
use Rattle.dia_breaking_avps.specs.Sent.{group_of}
use Rattle.dia_breaking_avps.specs.declared.breaking.DataBreak.TheVariants.{LeastLevel, EightBytes, Undecided}
use Rattle.dia_breaking.specs.declared.line.Cause.{Cause}
use Rattle.dia_breaking.specs.declared.line.Cause.TheVariants as causes
use Rattle.dia_breaking.specs.OwnBreaks.{LeavesOpen, RefusesShortest, RecordsData}
use Rattle.dia_breaking.specs.OwnKeys.{data_key}
use Rattle.dia_breaking.specs.Sides.{Sides}

-- the line names data
abbrev pub NamesData : Key → Cause → Type 0
NamesData key cause = (found : Witness) × (cause ≡ causes.Format key (Some found))

-- a line about the data of AVPs of the key names data exactly where A sees no levels in them. Where A does, B reads the levels as
-- leaves, and the line is about the format exactly where B refuses those of shortest AVPs, and undecided exactly where it isn't
-- known whether B refuses any
pub record IsLineOfData (s : Sides) (key : Key) (cause : Cause) : Type 0 where
  pub leaf : NamesData key cause ↔ (group_of s.sender key ≡ None)
  pub level : IsSome (group_of s.sender key) → IsDataBreak s.sender s.receiver s.sends s.unknown key LeastLevel
      ⊎ (IsDataBreak s.sender s.receiver s.sends s.unknown key EightBytes ⊎ IsDataBreak s.sender s.receiver s.sends s.unknown key Undecided)
  pub refused : (cause ≡ causes.Format key None) ↔ RefusesShortest s key
  pub undecided : (cause ≡ causes.LevelAsLeaf key) ↔ LeavesOpen s key

-- so it is with each line of data that reports what breaks
abbrev pub DataLinesAreApart : Type 0
DataLinesAreApart = (s : Sides) (key : Key) (cause : Cause) → data_key cause ≡ Some key → RecordsData s cause → IsLineOfData s key cause
