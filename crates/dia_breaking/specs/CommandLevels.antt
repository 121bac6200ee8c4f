-- How the level of a command breaks B's rules, between two sides.
use Rattle.std.specs.Prelude.{List}
use Rattle.dia_breaking_levels.specs.declared.line.Line.{Line as LevelLine}
use Rattle.dia_breaking.specs.declared.heads.Head.{Head}
use Rattle.dia_breaking.specs.declared.readings.Reading.{Reading}
use Rattle.dia_breaking.specs.Lengths.{Costs}
use Rattle.dia_breaking.specs.Sides.{Sides}
use Rattle.dia_breaking.specs.TheLines.{IsCommandLevel}

-- for a reading
abbrev pub IsLevelOf : Sides → Costs → Head → Reading → List LevelLine → Type 0
IsLevelOf s k head reading lines = IsCommandLevel s.sender s.receiver k head reading lines
