-- What an answer is written with: the text of each of its lines, and of what follows them.
use Rattle.std.specs.Prelude.{◌≡◌, ℕ, Bool, List, ◌++◌, Option, string_bytes}
use Rattle.std.specs.Global.{Global}
use Rattle.std.specs.List.{flat_map}
use Rattle.std.specs.declared.string.String.{String}
use Rattle.dia_accepted.specs.Accepted.{PlainEntry}
use Rattle.dia_breaking.specs.LineParts.{PlainParts}
use Rattle.dia_io.specs.declared.Input.{Input}
use Rattle.dia_upgrades.specs.declared.list.BadList.{BadList}
use Rattle.dia_upgrades.specs.declared.reporting.Counts.{Counts}
use Rattle.dia_upgrades.specs.Rows.{Cause, Row}

-- of a line its words, its parts, and the digits of its message, if it has one; of a cause how many commands have it, the words of its line, and the
-- parts and the digits of its first line; that nothing is left, with or without `--meaning`, of some lines or of none; a stale entry of the list; how
-- much there is of all; and of a refusal the list and why it is none, a dictionary without commands, or the name that no command has
pub record Writing : Type 0 where
  pub of_line : (words : List ℕ) → PlainParts → Option (List ℕ) → List ℕ
  pub of_cause : (commands : ℕ) (words : List ℕ) → PlainParts → Option (List ℕ) → List ℕ
  pub of_nothing : (meaning is_some : Bool) → List ℕ
  pub of_stale : PlainEntry → List ℕ
  pub of_counts : Counts → List ℕ
  pub of_bad_list : Input → BadList → List ℕ
  pub of_no_commands : List ℕ
  pub of_no_command : (name : List ℕ) → List ℕ

abbrev pub line_in : Writing → Row → List ℕ
line_in w row = w.of_line row.words row.parts row.digits

abbrev pub cause_in : Writing → Cause → List ℕ
cause_in w cause = w.of_cause cause.commands cause.words cause.parts cause.digits

abbrev pub stale_text : Writing → List PlainEntry → List ℕ
stale_text w stale = flat_map w.of_stale stale

-- this text was added
abbrev pub Adds : String Global → String Global → List ℕ → Type 0
Adds old new text = string_bytes new ≡ string_bytes old ++ text
