-- The list of accepted lines, as an input.
use Rattle.std.specs.Prelude.{◌≡◌, ℕ, List, ◌++◌, codes}
use Rattle.std.specs.Str.{IsUtf8}
use Rattle.std.specs.Str.Lossy.{utf8_valid_len}
use Rattle.dia_accepted.specs.Accepted.{AreEntries, IsListFault, PlainEntry, max_list}
use Rattle.dia_accepted.specs.declared.ListFault.{ListFault}
use Rattle.dia_accepted.specs.declared.ListFault.TheVariants as faults
use Rattle.dia_io.specs.declared.Input.{Input}
use Rattle.dia_io.specs.Inputs.{Holds, IsOver}
use Rattle.dia_report.specs.Refusals.{fault_at}
use Rattle.dia_upgrades.specs.declared.list.BadList.{BadList}
use Rattle.dia_upgrades.specs.declared.list.BadList.TheVariants.{TooLong, NotText, Syntax, Limit}

-- the input is the text of a list with these entries
abbrev pub IsListText : Input → List PlainEntry → Type 0
IsListText input list = (text : List ℕ) × Holds input max_list text × IsUtf8 text × AreEntries text list

-- the input is a text with this fault
abbrev pub HasFault : Input → ListFault → Type 0
HasFault input fault = (text : List ℕ) × Holds input max_list text × IsUtf8 text × IsListFault text fault

-- the input is the text of no list, and this is why
abbrev pub IsNoListText : Input → BadList → Type 0
IsNoListText input TooLong = IsOver input max_list
IsNoListText input (NotText at) = (text : List ℕ) × Holds input max_list text × (¬ IsUtf8 text) × (at ≡ utf8_valid_len text)
IsNoListText input (Syntax n at) = HasFault input (faults.Syntax n at)
IsNoListText input (Limit n) = HasFault input (faults.Limit n)

abbrev pub bad_list_text : BadList → List ℕ
bad_list_text TooLong = codes "too long"
bad_list_text (NotText at) = codes "not text"
bad_list_text (Syntax n at) = fault_at (codes "syntax") n
bad_list_text (Limit n) = fault_at (codes "limit") n

-- what is reported of it
abbrev pub list_line : BadList → List ℕ
list_line bad = codes "accepted: " ++ bad_list_text bad
