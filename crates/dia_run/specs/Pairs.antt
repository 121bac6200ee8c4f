-- Tables of pairs as texts, and what is reported of a pair.
use Rattle.std.specs.Prelude.{◌≡◌, ◌≢◌, ℕ, ◌<◌, List, [], ◌++◌, Some, codes, slice_get, ⊤}
use Rattle.std.specs.Str.{IsUtf8}
use Rattle.dia_compat.specs.declared.Answer.{Answer}
use Rattle.dia_compat.specs.declared.Answer.TheVariants.{Yes as Passed, No as Failed}
use Rattle.dia_compat.specs.declared.PairKind.TheVariants as pair
use Rattle.dia_compat.specs.declared.Test.{Test}
use Rattle.dia_compat.specs.declared.Test.TheVariants.{N1, N2, N3, N4, N5, N6, N7, N8, N9, N10}
use Rattle.dia_compat.specs.declared.TableFault.{TableFault}
use Rattle.dia_compat.specs.declared.TableFault.TheVariants as table
use Rattle.dia_compat.specs.TableText.{PlainTable, IsTable, IsTableFault}
use Rattle.dia_compat.specs.Closed.{pairs_of}
use Rattle.dia_compat.specs.WrittenTable.{pair_text}
use Rattle.dia_io.specs.declared.Input.{Input}
use Rattle.dia_io.specs.declared.Exit.{Exit}
use Rattle.dia_io.specs.declared.Exit.TheVariants.{Yes, No}
use Rattle.dia_io.specs.Inputs.{Holds, IsOver}
use Rattle.dia_compat.specs.TableText.{max_table}
use Rattle.dia_report.specs.Refusals.{fault_at, table_line}
use Rattle.dia_run.specs.Texts.{line}

-- ---- a table that is read

-- the input is the text of this table
abbrev pub IsTableText : Input → PlainTable → Type 0
IsTableText input t = (text : List ℕ) × Holds input max_table text × IsUtf8 text × IsTable text t

abbrev pub table_fault_text : TableFault → List ℕ
table_fault_text (table.Syntax n) = fault_at (codes "syntax") n
table_fault_text (table.Limit n) = fault_at (codes "limit") n
table_fault_text table.NoMemory = []

-- the input is no table's text, and this is reported
pub data IsNoTableText (input : Input) (recorded : List ℕ) : Type 0 where
  too_long : IsOver input max_table → recorded ≡ table_line (codes "too long") → IsNoTableText input recorded
  not_text : (text : List ℕ) → Holds input max_table text → ¬ IsUtf8 text → recorded ≡ table_line (codes "not text")
      → IsNoTableText input recorded
  fault : (text : List ℕ) (f : TableFault) → Holds input max_table text → IsUtf8 text → IsTableFault text f
      → f ≢ table.NoMemory → recorded ≡ table_line (table_fault_text f) → IsNoTableText input recorded

-- ---- what is written of pairs

abbrev pub test_word : Test → List ℕ
test_word N1 = codes "N1"
test_word N2 = codes "N2"
test_word N3 = codes "N3"
test_word N4 = codes "N4"
test_word N5 = codes "N5"
test_word N6 = codes "N6"
test_word N7 = codes "N7"
test_word N8 = codes "N8"
test_word N9 = codes "N9"
test_word N10 = codes "N10"

-- the line of a pair that fails a test
abbrev pub failure_line : List ℕ → List ℕ × List ℕ → Test → List ℕ
failure_line word p test = line (codes "no " ++ pair_text word p ++ codes " " ++ test_word test)

-- the pair at this place fails the test
abbrev pub IsFailureText : List ℕ → List (List ℕ × List ℕ) → ℕ → Test → List ℕ → Exit → Type 0
IsFailureText word pairs i test text exit =
    (p : List ℕ × List ℕ) × (slice_get pairs i ≡ Some p) × (text ≡ failure_line word p test) × (exit ≡ No)

-- the line of an answer, and how the program ends
abbrev pub IsAnswerText : PlainTable → Answer → List ℕ → Exit → Type 0
IsAnswerText t Passed text exit = (text ≡ line (codes "yes")) × (exit ≡ Yes)
IsAnswerText t (Failed pair.Command i test) text exit = IsFailureText (codes "command") t.commands i test text exit
IsAnswerText t (Failed pair.Avp i test) text exit = IsFailureText (codes "avp") t.avps i test text exit

-- the pair that an answer names is in the table
abbrev pub NamesPair : PlainTable → Answer → Type 0
NamesPair t Passed = ⊤
NamesPair t (Failed k i test) = i < pairs_of k t
