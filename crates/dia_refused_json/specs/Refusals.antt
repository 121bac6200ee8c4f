-- Inputs that are refused, as JSON values.
use Rattle.std.specs.Prelude.{◌≡◌, ℕ, not, ◌&&◌, position, List, [], ◌∷◌, ◌++◌, Option, None, Some, codes, string_bytes, ⊤}
use Rattle.std.specs.Fmt.{decimal}
use Rattle.json.specs.Print.{quoted}
use Rattle.serde_json.specs.Data.{Data, Items, Members, array, item, member, no_items, no_members, null, number, string, unsigned}
use Rattle.dia_ccf.specs.declared.CcfFault.{CcfFault}
use Rattle.dia_ccf.specs.declared.CcfFault.TheVariants as ccf
use Rattle.dia_dict.specs.Words.{kind_word}
use Rattle.dia_report.specs.declared.bad_input.BadInput.{BadInput}
use Rattle.dia_report.specs.declared.bad_input.BadInput.TheVariants.{Dictionary, Table, Message}
use Rattle.dia_report.specs.declared.bad_input.BadDictionary.{BadDictionary}
use Rattle.dia_report.specs.declared.bad_input.BadDictionary.TheVariants as dictionary
use Rattle.dia_report.specs.declared.bad_input.BadTable.{BadTable}
use Rattle.dia_report.specs.declared.bad_input.BadTable.TheVariants as table
use Rattle.dia_report.specs.declared.wrong_source.WrongSource.{WrongSource}
use Rattle.dia_report.specs.declared.bad_input.BadMessage.{BadMessage}
use Rattle.dia_report.specs.declared.bad_input.BadMessage.TheVariants as message
use Rattle.dia_report.specs.Refusals.{message_fault_word}
use Rattle.dia_ccf.specs.declared.wanted.Wanted.{Wanted}
use Rattle.dia_explain_places.specs.Expecting.{expected}
use Rattle.dia_explain_places.specs.Places.{column_at, is_white, line_at}
use Rattle.dia_explain_places.specs.Tables.{limit_place, syntax_place}
use Rattle.dia_io.specs.declared.Input.{Input}
use Rattle.dia_io.specs.declared.Input.TheVariants.{Bytes, TooLong}
use Rattle.dia_io.specs.Inputs.{Holds}
use Rattle.dia_ccf.specs.declared.Refused.TheVariants.{At}
use Rattle.dia_ccf.specs.Limits.{max_text}
use Rattle.dia_ccf.specs.Plain.{PlainSource}
use Rattle.dia_ccf.specs.Refusals.{IsRefused}
use Rattle.dia_dict.specs.Resolution.{first_wrong, wrong}
use Rattle.dia_run.specs.Texts.{IsNoText, IsSourceText}
use Rattle.std.specs.Char.{is_ascii_hexdigit}
use Rattle.dia_refused_json.specs.Members.{json_line, refused_members}

-- the text of an input. One that is too long has none
abbrev pub text_of : Input → List ℕ
text_of (Bytes v) = v.items
text_of TooLong = []

-- a line of a text, and the column of a place on it, as standard error reports them, before other members
abbrev pub on_line_with : ℕ → List ℕ → ℕ → Members → Members
on_line_with n text at rest = member (codes "line") (number (unsigned n)) (member (codes "column") (number (unsigned (column_at text at))) rest)

abbrev pub on_line : ℕ → List ℕ → ℕ → Members
on_line n text at = on_line_with n text at no_members

abbrev pub at_place : List ℕ → ℕ → Members
at_place text at = on_line (line_at text at) text at

-- a name, or null for none
abbrev pub name_value : List ℕ → Data
name_value [] = null
name_value (c ∷ cs) = string (c ∷ cs)

-- strings as an array
abbrev pub string_items : List (List ℕ) → Items
string_items [] = no_items
string_items (s ∷ rest) = item (string s) (string_items rest)

abbrev pub strings : List (List ℕ) → Data
strings list = array (string_items list)

-- a string after the first of an array
abbrev pub another : List ℕ → List ℕ
another s = 44 ∷ quoted s

-- a place where the grammar refuses a text, and what was expected there
abbrev pub expecting : ℕ → List ℕ → ℕ → Wanted → Members
expecting n text at wanted = on_line_with n text at (member (codes "expected") (strings (expected wanted)) no_members)

-- the grammar refuses the text, for which memory wasn't refused
abbrev pub misfit_members : (input text : List ℕ) → ℕ → Wanted → CcfFault → Members
misfit_members input text at wanted (ccf.Syntax token n) = refused_members input (codes "syntax") (expecting n text at wanted)
misfit_members input text at wanted (ccf.Number n) = refused_members input (codes "number") (on_line n text at)
misfit_members input text at wanted (ccf.Limit n) = refused_members input (codes "limit") (on_line n text at)
misfit_members input text at wanted ccf.NoMemory = refused_members input (codes "no memory") no_members

-- the source names no dictionary: the kind of its first fault, and where it is
abbrev pub wrong_members : List ℕ → WrongSource → Members
wrong_members input found = refused_members input (kind_word found.kind)
    (member (codes "name") (name_value (string_bytes found.name)) (member (codes "slot") (name_value (string_bytes found.slot)) no_members))

abbrev pub dictionary_members : (input text : List ℕ) → BadDictionary → Members
dictionary_members input text dictionary.TooLong = refused_members input (codes "too long") no_members
dictionary_members input text (dictionary.NotText at) = refused_members input (codes "not text") (at_place text at)
dictionary_members input text (dictionary.NoSource misfit) = misfit_members input text misfit.at misfit.wanted misfit.fault
dictionary_members input text (dictionary.Wrong found) = wrong_members input found

abbrev pub table_members : List ℕ → BadTable → Members
table_members text table.TooLong = refused_members (codes "table") (codes "too long") no_members
table_members text (table.NotText at) = refused_members (codes "table") (codes "not text") (at_place text at)
table_members text (table.Syntax n) = refused_members (codes "table") (codes "syntax") (on_line n text (syntax_place text n))
table_members text (table.Limit n) = refused_members (codes "table") (codes "limit") (on_line n text (limit_place text n))

-- the first byte that is neither a digit nor white space. Without one the digits are odd in number
abbrev pub stranger_at : List ℕ → Option ℕ
stranger_at text = position (λ c. not (is_ascii_hexdigit c) && not (is_white c)) text

abbrev pub place_of_stranger : List ℕ → Option ℕ → Members
place_of_stranger text None = no_members
place_of_stranger text (Some at) = at_place text at

abbrev pub message_members : List ℕ → BadMessage → Members
message_members text message.TooLong = refused_members (codes "message") (codes "too long") no_members
message_members text message.NotHexadecimal = refused_members (codes "message") (codes "not hexadecimal") (place_of_stranger text (stranger_at text))
message_members text (message.NoMessage fault) = refused_members (codes "message") (message_fault_word fault) no_members

-- an input that is refused, by its text: a dictionary by its number in the command
abbrev pub bad_input_members : List ℕ → BadInput → Members
bad_input_members text (Dictionary n why) = dictionary_members (codes "dictionary " ++ decimal n) text why
bad_input_members text (Table why) = table_members text why
bad_input_members text (Message why) = message_members text why

abbrev pub bad_input_json : Input → BadInput → List ℕ
bad_input_json input bad = json_line (bad_input_members (text_of input) bad)

-- ---- what was found of an input

-- the input is refused for this: where the grammar refuses its text, or the first fault of what the text says
abbrev pub IsFoundIn : Input → BadInput → Type 0
IsFoundIn input (Dictionary n (dictionary.NoSource misfit)) = (text : List ℕ) × Holds input max_text text × IsRefused text (At misfit)
IsFoundIn input (Dictionary n (dictionary.Wrong found)) = (source : PlainSource) × IsSourceText input source
    × (first_wrong source ≡ Some (wrong found.kind (string_bytes found.name) (string_bytes found.slot)))
IsFoundIn input (Dictionary n (dictionary.NotText at)) = IsNoText input max_text at
IsFoundIn input bad = ⊤
