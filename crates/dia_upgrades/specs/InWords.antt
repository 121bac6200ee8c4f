-- An answer in words.
use Rattle.std.specs.Prelude.{ℕ, Bool, if◌then◌else◌, List, [], ◌++◌, codes}
use Rattle.dia_accepted.specs.Accepted.{PlainEntry}
use Rattle.dia_run.specs.Texts.{line}
use Rattle.dia_upgrades.specs.Lists.{list_line}
use Rattle.dia_upgrades.specs.Rows.{digits_line}
use Rattle.dia_upgrades.specs.Writing.{Writing}

-- ---- where nothing is left

abbrev pub nothing_breaks : List ℕ
nothing_breaks = codes "nothing breaks"

-- where the list accepts all that breaks
abbrev pub nothing_else_breaks : List ℕ
nothing_else_breaks = codes "nothing else breaks"

-- with `--meaning`
abbrev pub nothing_differs : List ℕ
nothing_differs = codes "nothing differs"

abbrev pub nothing_else_differs : List ℕ
nothing_else_differs = codes "nothing else differs"

-- where none is left of the lines, of which there are some or none
abbrev pub nothing_for : Bool → Bool → List ℕ
nothing_for meaning is_some = if is_some then (if meaning then nothing_else_differs else nothing_else_breaks) else (if meaning then nothing_differs else nothing_breaks)

-- ---- entries of the list

abbrev pub stale_line : PlainEntry → List ℕ
stale_line e = line (codes "stale: " ++ e.words)

-- ---- refusals

-- a dictionary without commands
abbrev pub no_commands_line : List ℕ
no_commands_line = codes "breaking: no command"

-- a name that is no command's
abbrev pub no_command_line : List ℕ → List ℕ
no_command_line name = codes "breaking: no command " ++ name

-- ---- all

-- each on a line of its own, and the digits of a message on a line after it; how much there is of all isn't written
abbrev pub in_words : Writing
in_words = record {
  of_line = λ words parts digits. line words ++ digits_line digits;
  of_cause = λ commands words parts digits. line words ++ digits_line digits;
  of_nothing = λ meaning is_some. line (nothing_for meaning is_some);
  of_stale = stale_line;
  of_counts = λ counts. [];
  of_bad_list = λ input bad. line (list_line bad);
  of_no_commands = line no_commands_line;
  of_no_command = λ name. line (no_command_line name);
}
