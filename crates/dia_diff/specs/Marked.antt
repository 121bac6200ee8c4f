-- The differences that a value marks.
use Rattle.std.specs.Prelude.{Bool, ◌||◌}
use Rattle.std.specs.HashSet.{contains}
use Rattle.std.specs.List.{list_any}
use Rattle.dia_differences.specs.declared.lines.Effects.{Effects}
use Rattle.dia_differences.specs.declared.lines.What.{What}
use Rattle.dia_diff.specs.declared.marks.EffectMarks.{EffectMarks}
use Rattle.dia_diff.specs.declared.marks.Marks.{Marks}
use Rattle.dia_diff.specs.Subjects.{same_subject, subjects}

abbrev pub is_marked : Marks → What → Bool
is_marked m w = m.all || list_any (contains same_subject m.subjects) (subjects w)

-- what comes of a difference
abbrev pub effects_by : EffectMarks → What → Effects
effects_by m w = record { breaks = is_marked m.breaks w; other_format = is_marked m.other_format w; ignored = is_marked m.ignored w }
