-- How a diagnostic begins: with what standard output reports of the refused input.
use Rattle.std.specs.Prelude.{◌≡◌, ℕ, ◌≤◌, ◌==◌, if◌then◌else◌, List, ◌++◌, length, Option, Some, None, slice_get, string_bytes, codes, ⊤}
use Rattle.std.specs.Str.{IsUtf8}
use Rattle.dia_ccf.specs.declared.CcfFault.{CcfFault}
use Rattle.dia_ccf.specs.declared.CcfFault.TheVariants as fault
use Rattle.dia_ccf.specs.declared.refused.Misfit.{Misfit}
use Rattle.dia_ccf.specs.Plain.{plain_source}
use Rattle.dia_ccf.specs.Refusals.{IsMisfit}
use Rattle.dia_dict.specs.Resolution.{PlainFinding, wrong, all_findings}
use Rattle.dia_report.specs.declared.wrong_source.WrongSource.{WrongSource}
use Rattle.dia_report.specs.declared.bad_input.BadInput.{BadInput}
use Rattle.dia_report.specs.declared.bad_input.BadInput.TheVariants.{Dictionary, Table, Message}
use Rattle.dia_report.specs.declared.bad_input.BadDictionary.{BadDictionary}
use Rattle.dia_report.specs.declared.bad_input.BadDictionary.TheVariants as dictionary
use Rattle.dia_report.specs.declared.bad_input.BadTable.{BadTable}
use Rattle.dia_report.specs.declared.bad_input.BadTable.TheVariants as table
use Rattle.dia_explain_places.specs.declared.input_texts.InputTexts.{InputTexts}
use Rattle.dia_explain_places.specs.declared.input_texts.NamedText.{NamedText}
use Rattle.dia_explain_places.specs.Notes.{Gains}
use Rattle.dia_explain_places.specs.Parts.{part_place}
use Rattle.dia_explain_places.specs.Places.{line_at, place_text, start_text, excerpt}

-- a diagnostic about a place: what is reported of it, and its line
abbrev pub note_text : List ℕ → List ℕ → ℕ → List ℕ → List ℕ
note_text name text at recorded = place_text name text at ++ recorded ++ codes "\n" ++ excerpt text at

-- what a diagnostic has gained begins with this
pub record BeginsWith (front : List ℕ) (old new : Option (List ℕ)) : Type 0 where
  pub rest : List ℕ
  pub added : Gains old new (front ++ rest)

-- a diagnostic begins with the place of a finding: the first of a source, which is what standard output reports
pub record RecordsFirst (name text : List ℕ) (w : WrongSource) (old new : Option (List ℕ)) : Type 0 where
  pub finding : PlainFinding
  pub first : slice_get (all_findings (plain_source w.source.value)) 0 ≡ Some finding
  pub same : finding.wrong ≡ wrong w.kind (string_bytes w.name) (string_bytes w.slot)
  pub begins : BeginsWith (start_text name text (part_place text w.source.value finding.part)) old new

-- a diagnostic begins with a place on a line of the text
pub record BeginsOnLine (name text : List ℕ) (n : ℕ) (old new : Option (List ℕ)) : Type 0 where
  pub at : ℕ
  pub on_line : line_at text at ≡ n
  pub begins : BeginsWith (place_text name text at) old new

-- the line that standard output reports for a text that the grammar refuses
abbrev pub recorded_line : CcfFault → Option ℕ
recorded_line (fault.Syntax token n) = Some n
recorded_line (fault.Number n) = Some n
recorded_line (fault.Limit n) = Some n
recorded_line fault.NoMemory = None

-- a diagnostic begins on that line
abbrev pub MisfitBegins : List ℕ → List ℕ → Misfit → Option (List ℕ) → Option (List ℕ) → Type 0
MisfitBegins name text misfit old new = (n : ℕ) → IsMisfit text misfit → recorded_line misfit.fault ≡ Some n → BeginsOnLine name text n old new

abbrev pub DictionaryBegins : List ℕ → List ℕ → BadDictionary → Option (List ℕ) → Option (List ℕ) → Type 0
DictionaryBegins name text (dictionary.NoSource misfit) old new = MisfitBegins name text misfit old new
DictionaryBegins name text (dictionary.Wrong found) old new = RecordsFirst name text found old new
DictionaryBegins name text why old new = ⊤

-- the same of line n, where the text has it
abbrev pub LineBegins : List ℕ → List ℕ → ℕ → Option (List ℕ) → Option (List ℕ) → Type 0
LineBegins name text n old new = (k : ℕ) → k ≤ length text → line_at text k ≡ n → BeginsOnLine name text n old new

abbrev pub TableBegins : List ℕ → List ℕ → BadTable → Option (List ℕ) → Option (List ℕ) → Type 0
TableBegins name text (table.Syntax n) old new = LineBegins name text n old new
TableBegins name text (table.Limit n) old new = LineBegins name text n old new
TableBegins name text why old new = ⊤

-- the input that is the dictionary of this number
abbrev pub dictionary_text : InputTexts → ℕ → NamedText
dictionary_text texts number = if number == 1 then texts.first else texts.second

-- the diagnostic of a refused input
abbrev pub NoteBegins : InputTexts → BadInput → Option (List ℕ) → Option (List ℕ) → Type 0
NoteBegins texts (Dictionary number why) old new = let input = dictionary_text texts number in
    IsUtf8 input.text.now → DictionaryBegins input.name.now input.text.now why old new
NoteBegins texts (Table why) old new = TableBegins texts.table.name.now texts.table.text.now why old new
NoteBegins texts (Message why) old new = ⊤
