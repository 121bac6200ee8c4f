-- All findings of the guidelines, one after the other.
use Rattle.std.specs.Prelude.{ℕ, ◌+◌, List, [], ◌++◌, length}
use Rattle.std.specs.Option.{option_map_or}
use Rattle.dia_book.specs.Dictionary.{Dictionary, group_place, groups}
use Rattle.dia_lint.specs.declared.finding.Finding.{Finding}
use Rattle.dia_lint.specs.Declarations.{base_lines}
use Rattle.dia_lint.specs.Gathered.{gathered}
use Rattle.dia_lint.specs.Guidelines.{command_lines, group_lines}
use Rattle.dia_lint.specs.Pairs.{pair_lines}

-- those of the command at a place of the dictionary's order
abbrev pub lines_of_command : Dictionary → ℕ → List Finding
lines_of_command d i = command_lines d (length (groups d) + i) ++ pair_lines d (length (groups d) + i)

-- those of the entry at a place
abbrev pub lines_of_entry : Dictionary → ℕ → List Finding
lines_of_entry d e = option_map_or (group_lines d) (group_place d e) [] ++ base_lines d e

-- those of a dictionary: of its commands, and then of its AVPs
abbrev pub guideline_lines : Dictionary → List Finding
guideline_lines d = gathered (lines_of_command d) (length d.commands) ++ gathered (lines_of_entry d) (length d.entries)
