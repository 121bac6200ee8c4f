-- Whether B's side refuses AVPs that A's side sends, whatever is around them.
use Rattle.std.specs.Prelude.{◌≡◌, ◌↔◌, ◌⊎◌, Bool, true, false, List, []}
use Rattle.dia_wire.specs.declared.Key.{Key}
use Rattle.dia_valid.specs.Rules.{rules_in}
use Rattle.dia_breaking_avps.specs.Breaks.{IsDataBreak, IsHeadBreak, IsSilent}
use Rattle.dia_breaking_avps.specs.declared.breaking.AvpBreaks.{AvpBreaks}
use Rattle.dia_breaking_avps.specs.declared.breaking.DataBreak.{DataBreak}
use Rattle.dia_breaking_avps.specs.declared.breaking.DataBreak.TheVariants.{Fits, Groups, Data, LeastLevel, EightBytes, Undecided}
use Rattle.dia_breaking_levels.specs.declared.line.Line.{Line as LevelLine}
use Rattle.dia_breaking.specs.Lengths.{Costs}
use Rattle.dia_breaking.specs.Sides.{Sides}
use Rattle.dia_breaking.specs.TheLines.{AreLinesOf}

-- so the AVPs of the key break by themselves
abbrev pub AreBreaksOf : Sides → Key → AvpBreaks → Type 0
AreBreaksOf s key breaks = IsHeadBreak s.sender s.receiver s.sends s.unknown key breaks.head × IsDataBreak s.sender s.receiver s.sends s.unknown key breaks.data

-- both have a level in them, and a level of A's definition breaks the rules of B's
abbrev pub BreakInLevels : Sides → Costs → DataBreak → Bool → Type 0
BreakInLevels s k (Groups a b) is = (lines : List LevelLine) × AreLinesOf k (rules_in s.sender a) (rules_in s.receiver b) lines × ((is ≡ false) ↔ (lines ≡ []))
BreakInLevels s k Fits is = is ≡ false
BreakInLevels s k (Data found) is = is ≡ false
BreakInLevels s k LeastLevel is = is ≡ false
BreakInLevels s k EightBytes is = is ≡ false
BreakInLevels s k Undecided is = is ≡ false

-- B refuses an M flag or data of theirs, or a level
abbrev pub IsRefusal : Sides → Costs → Key → Bool → Type 0
IsRefusal s k key is = (breaks : AvpBreaks) × AreBreaksOf s key breaks × (((¬ IsSilent breaks) × (is ≡ true)) ⊎ (IsSilent breaks × BreakInLevels s k breaks.data is))
