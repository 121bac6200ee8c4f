-- The objects of `breaking` as JSON: those of lines, and those after them.
use Rattle.std.specs.Prelude.{◌≡◌, ℕ, Bool, if◌then◌else◌, List, [], ◌++◌, codes, Option}
use Rattle.std.specs.List.{flat_map}
use Rattle.serde_json.specs.Written.{compact_text}
use Rattle.dia_accepted.specs.Accepted.{PlainEntry}
use Rattle.dia_book.specs.Dictionary.{Dictionary}
use Rattle.dia_upgrades_json.specs.declared.keys.Names.{Names}
use Rattle.dia_upgrades_json.specs.Fields.{Field, object_of, text_field}
use Rattle.dia_upgrades_json.specs.Keys.{key_in, key_named}
use Rattle.dia_upgrades_json.specs.LineObjects.{cause_object, line_object}
use Rattle.dia_upgrades_json.specs.Members.{unsigned_field}
use Rattle.dia_upgrades_json.specs.SpotTexts.{both_in, spelt}
use Rattle.dia_upgrades_json.specs.Spots.{PlainSpelt, PlainTexts, place_fields}
use Rattle.dia_explain_places.specs.Places.{column_at}
use Rattle.dia_explain_places.specs.Tables.{line_from, start_of_line}
use Rattle.dia_ccf.specs.declared.source.Source.{Source}
use Rattle.dia_ccf.specs.Plain.{plain_source}
use Rattle.dia_io.specs.declared.Input.{Input}
use Rattle.dia_io.specs.declared.Inputs.{Inputs}
use Rattle.dia_report.specs.declared.reporting.BothBooks.{BothBooks}
use Rattle.dia_refused_json.specs.Refusals.{text_of}
use Rattle.dia_run.specs.Texts.{IsPlacedIn, IsSourceText, line}
use Rattle.dia_upgrades.specs.declared.list.BadList.{BadList}
use Rattle.dia_upgrades.specs.declared.list.BadList.TheVariants.{TooLong, NotText, Syntax, Limit}
use Rattle.dia_upgrades.specs.Rows.{Cause, Row, causes_of}
use Rattle.dia_upgrades.specs.Writing.{Writing}
use Rattle.dia_wire.specs.declared.Key.{Key}

-- ---- lines

-- the look-ups by name are those of the two dictionaries, which have these texts
pub record AreNamesOf (a b : Dictionary) (texts : PlainTexts) (names : Names) : Type 0 where
  pub first_are : (name : List ℕ) → key_in names.first name ≡ key_named a name
  pub second_are : (name : List ℕ) → key_in names.second name ≡ key_named b name
  pub texts_are : both_in names.texts.value ≡ texts

-- the text of the input says this, and has its parts at these offsets
abbrev pub IsSpelt : Input → PlainSpelt → Type 0
IsSpelt input s = (source : Source) × IsSourceText input (plain_source source) × IsPlacedIn input source × (s ≡ spelt (text_of input) source)

abbrev pub AreSpelt : Inputs → PlainTexts → Type 0
AreSpelt inputs texts = IsSpelt inputs.first texts.first × IsSpelt inputs.second texts.second

-- of both dictionaries that were read, the parts have their offsets in the texts
abbrev pub ArePlaced : Inputs → BothBooks → Type 0
ArePlaced inputs books = IsPlacedIn inputs.first books.first.value.source × IsPlacedIn inputs.second books.second.value.source

-- the texts of two dictionaries that were read
abbrev pub texts_of : Inputs → BothBooks → PlainTexts
texts_of inputs books = record { first = spelt (text_of inputs.first) books.first.value.source; second = spelt (text_of inputs.second) books.second.value.source }

-- the object of a line over two dictionaries, which have these texts
abbrev pub object_over : Dictionary → Dictionary → PlainTexts → Row → List ℕ
object_over a b texts row = line (line_object (key_named a) (key_named b) texts row.parts row.words row.digits)

-- that of a cause
abbrev pub cause_over : Dictionary → Dictionary → PlainTexts → Cause → List ℕ
cause_over a b texts cause = line (cause_object (key_named a) (key_named b) texts cause.commands cause.parts cause.words cause.digits)

-- those of these lines; with `--once` those of their causes
abbrev pub objects_over : Dictionary → Dictionary → PlainTexts → Bool → List Row → List ℕ
objects_over a b texts once rows = if once then flat_map (cause_over a b texts) (causes_of rows) else flat_map (object_over a b texts) rows

-- ---- after them

-- the object of these members, on a line
abbrev pub object_line : List Field → List ℕ
object_line fields = line (compact_text (object_of fields))

-- how many lines are left, of how many causes, how many lines are accepted, and how many entries of the list are stale
abbrev pub counts_fields : (lines causes accepted stale : ℕ) → List Field
counts_fields lines causes accepted stale = unsigned_field (codes "lines") lines ++ unsigned_field (codes "causes") causes
    ++ unsigned_field (codes "accepted") accepted ++ unsigned_field (codes "stale") stale

-- a stale entry, and the number of its line
abbrev pub stale_fields : PlainEntry → List Field
stale_fields e = text_field (codes "stale") e.words ++ unsigned_field (codes "line") e.line

-- an input that is refused, and the kind of what is wrong
abbrev pub refused_fields : (input kind : List ℕ) → List Field
refused_fields input kind = text_field (codes "error") input ++ text_field (codes "kind") kind

abbrev pub list_kind : BadList → List ℕ
list_kind TooLong = codes "too long"
list_kind (NotText at) = codes "not text"
list_kind (Syntax n at) = codes "syntax"
list_kind (Limit n) = codes "limit"

-- an offset in a line: the number of the line, and the column
abbrev pub line_fields : List ℕ → (n at : ℕ) → List Field
line_fields text n at = unsigned_field (codes "line") n ++ unsigned_field (codes "column") (column_at (line_from text (start_of_line text n)) at)

-- where the text of a list is refused
abbrev pub where_fields : List ℕ → BadList → List Field
where_fields text TooLong = []
where_fields text (NotText at) = place_fields text at
where_fields text (Syntax n at) = line_fields text n at
where_fields text (Limit n) = unsigned_field (codes "line") n

-- a list that is refused
abbrev pub list_fields : List ℕ → BadList → List Field
list_fields text bad = refused_fields (codes "accepted") (list_kind bad) ++ where_fields text bad

-- a dictionary without commands
abbrev pub no_commands_fields : List Field
no_commands_fields = refused_fields (codes "breaking") (codes "no command")

-- a name that is no command's
abbrev pub no_command_fields : List ℕ → List Field
no_command_fields name = no_commands_fields ++ text_field (codes "name") name

-- ---- an answer

-- each as an object on a line, by the look-ups of AVPs by name and the texts of two dictionaries. That nothing is left isn't written: the counts say it
abbrev pub json_by : (first second : List ℕ → Option Key) → PlainTexts → Writing
json_by first second texts = record {
  of_line = λ words parts digits. line (line_object first second texts parts words digits);
  of_cause = λ commands words parts digits. line (cause_object first second texts commands parts words digits);
  of_nothing = λ meaning is_some. [];
  of_stale = λ e. object_line (stale_fields e);
  of_counts = λ counts. object_line (counts_fields counts.lines counts.causes counts.accepted counts.stale);
  of_bad_list = λ input bad. object_line (list_fields (text_of input) bad);
  of_no_commands = object_line no_commands_fields;
  of_no_command = λ name. object_line (no_command_fields name);
}

-- by the look-ups that were made
abbrev pub json_in : Names → Writing
json_in names = json_by (key_in names.first) (key_in names.second) (both_in names.texts.value)

-- over two dictionaries, which have these texts
abbrev pub json_over : Dictionary → Dictionary → PlainTexts → Writing
json_over a b texts = json_by (key_named a) (key_named b) texts
