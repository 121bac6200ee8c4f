-- What is written where `compare` answers as JSON, and how the program ends.
use Rattle.std.specs.Prelude.{◌≡◌, ◌≢◌, ℕ, ◌⊎◌, List, [], Some, codes, slice_get}
use Rattle.serde_json.specs.Data.{no_members}
use Rattle.dia_dict.specs.Dictionary.{Dictionary}
use Rattle.dia_dict.specs.declared.IndexedBook.{IndexedBook}
use Rattle.dia_terms.specs.declared.Unknown.{Unknown}
use Rattle.dia_compat.specs.declared.Answer.{Answer}
use Rattle.dia_compat.specs.declared.Answer.TheVariants.{Yes as Passed, No as Failed}
use Rattle.dia_compat.specs.declared.Failing.{Failing}
use Rattle.dia_compat.specs.declared.PairKind.{PairKind}
use Rattle.dia_compat.specs.declared.Test.{Test}
use Rattle.dia_compat.specs.Closed.{IsTableAnswer as IsCompared}
use Rattle.dia_compat.specs.Failings.{AreFailingsFor, AreFailingsOf}
use Rattle.dia_compat.specs.PairTests.{NamePair}
use Rattle.dia_compat.specs.TableText.{PlainTable, plain_table}
use Rattle.dia_io.specs.declared.Inputs.{Inputs}
use Rattle.dia_io.specs.declared.Exit.{Exit}
use Rattle.dia_io.specs.declared.Exit.TheVariants.{No, Yes}
use Rattle.dia_report.specs.declared.reporting.Report.{Report}
use Rattle.dia_report.specs.declared.reporting.Report.TheVariants.{Compared}
use Rattle.dia_run.specs.Outcome.{IsCompareOutcome}
use Rattle.dia_run.specs.Pairs.{IsTableText}
use Rattle.dia_run.specs.Report.{AreReadFrom}
use Rattle.dia_run.specs.Texts.{IsDictionaryText}
use Rattle.dia_refused_json.specs.Recording.{IsRefusal, RefusedDictionaries}
use Rattle.dia_refused_json.specs.Members.{json_line, verdict_members}
use Rattle.dia_refused_json.specs.Recording.{RefusesAs}
use Rattle.dia_compared_json.specs.Failures.{failure_json, pairs_listed}

-- the pair at this place fails the test, for all of this
pub record IsFailureJson (a b : Dictionary) (u : Unknown) (t : PlainTable) (k : PairKind) (i : ℕ) (test : Test) (text : List ℕ) (exit : Exit) : Type 0 where
  pub p : NamePair
  pub fails : List Failing
  pub is_pair : slice_get (pairs_listed k t) i ≡ Some p
  pub are_all : AreFailingsOf a b u t k i test fails
  pub not_none : fails ≢ []
  pub is_text : text ≡ failure_json a b k p test fails
  pub is_exit : exit ≡ No

-- the object of an answer, and how the program ends
abbrev pub IsAnswerJson : Dictionary → Dictionary → Unknown → PlainTable → Answer → List ℕ → Exit → Type 0
IsAnswerJson a b u t Passed text exit = (text ≡ json_line (verdict_members (codes "yes") no_members)) × (exit ≡ Yes)
IsAnswerJson a b u t (Failed k i test) text exit = IsFailureJson a b u t k i test text exit

-- what is found of the table's pairs
abbrev pub RecordsComparison : Unknown → PlainTable → Dictionary → Dictionary → List ℕ → Exit → Type 0
RecordsComparison u table a b text exit = (answer : Answer) × IsCompared a b u table answer × IsAnswerJson a b u table answer text exit

-- `compare` of the inputs: its answer, or a dictionary or the table is refused
abbrev pub IsCompareJson : Unknown → Inputs → List ℕ → Exit → Type 0
IsCompareJson u inputs text exit =
    ((a : Dictionary) × (b : Dictionary) × (table : PlainTable) × IsDictionaryText inputs.first a × IsDictionaryText inputs.second b
    × IsTableText inputs.table table × RecordsComparison u table a b text exit)
    ⊎ (RefusedDictionaries inputs text exit ⊎ IsRefusal (RefusesAs (IsCompareOutcome u inputs)) inputs.table text exit)

-- what its report has, but for one of an input that is refused: all that was compared, and what was found
abbrev pub IsCompareReport : (IndexedBook → Dictionary) → Unknown → Inputs → Report → List ℕ → Exit → Type 0
IsCompareReport meaning u inputs (Compared found) text exit =
    (found.unknown ≡ u) × AreReadFrom meaning inputs found.books × IsTableText inputs.table (plain_table found.table)
    × IsCompared (meaning found.books.first.value.book) (meaning found.books.second.value.book) u (plain_table found.table) found.answer
    × AreFailingsFor (meaning found.books.first.value.book) (meaning found.books.second.value.book) u (plain_table found.table) found.answer found.failings.items
    × IsAnswerJson (meaning found.books.first.value.book) (meaning found.books.second.value.book) u (plain_table found.table) found.answer text exit
IsCompareReport meaning u inputs report text exit = ⊥

-- two dictionaries, a policy and a table have one text, and one way to end
abbrev pub ComparisonHasOneText : Type 0
ComparisonHasOneText = (a b : Dictionary) (u : Unknown) (table : PlainTable) (text other : List ℕ) (exit ending : Exit)
    → RecordsComparison u table a b text exit → RecordsComparison u table a b other ending → (text ≡ other) × (exit ≡ ending)
