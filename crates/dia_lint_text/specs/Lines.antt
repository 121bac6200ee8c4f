-- The lines that are written, as text and as JSON (RFC 8259).
use Rattle.std.specs.Prelude.{ℕ, ◌==◌, not, ◌&&◌, Bool, if◌then◌else◌, List, [], ◌∷◌, ◌++◌, length, count_by, filter, flat_map, map, Option, Some, None, slice_get, codes, nat_eq}
use Rattle.std.specs.List.{list_any}
use Rattle.std.specs.Option.{option_map_or}
use Rattle.std.specs.Fmt.{decimal}
use Rattle.json.specs.Print.{quoted}
use Rattle.dia_wire.specs.declared.Key.{Key}
use Rattle.dia_book.specs.Dictionary.{Dictionary}
use Rattle.dia_accepted.specs.Accepted.{PlainEntry, PlainRecorded, accepts, unused_of}
use Rattle.dia_explain_places.specs.Places.{column_at, line_at}
use Rattle.dia_io.specs.declared.Exit.{Exit}
use Rattle.dia_io.specs.declared.Exit.TheVariants as exits
use Rattle.dia_lint.specs.BaseAvps.{base_key}
use Rattle.dia_lint.specs.Words.{rule_number, rule_word, rules, section_of, set_of, set_word}
use Rattle.dia_lint.specs.declared.finding.Finding.{Finding}
use Rattle.dia_lint.specs.declared.finding.Named.{Named}
use Rattle.dia_lint.specs.declared.finding.Named.TheVariants as named
use Rattle.dia_lint.specs.declared.finding.Subject.{Subject}
use Rattle.dia_lint.specs.declared.finding.Subject.TheVariants as subject
use Rattle.dia_lint.specs.declared.rule.Rule.{Rule}
use Rattle.dia_lint_text.specs.Asking.{Question}
use Rattle.dia_lint_text.specs.Lists.{counted_words}
use Rattle.dia_lint_text.specs.Names.{def_name, named_text}
use Rattle.dia_lint_text.specs.Rows.{PlainRow}

-- ---- a finding as an object

abbrev pub section_json : Option (List ℕ) → List ℕ
section_json None = []
section_json (Some section) = codes ",\"section\":\"" ++ section ++ codes "\""

abbrev pub rule_json : Rule → List ℕ
rule_json r = codes "{\"rule\":\"" ++ rule_word r ++ codes "\",\"kind\":\"" ++ set_word (set_of r) ++ codes "\"" ++ section_json (section_of r)

abbrev pub place_json : List ℕ → List ℕ → ℕ → List ℕ
place_json file text at =
    codes ",\"file\":" ++ quoted file ++ codes ",\"line\":" ++ decimal (line_at text at) ++ codes ",\"column\":" ++ decimal (column_at text at)

abbrev pub definition_json : List ℕ → List ℕ
definition_json name = codes ",\"definition\":" ++ quoted name

abbrev pub avp_json : List ℕ → Key → List ℕ
avp_json name key =
    codes ",\"avp\":{\"name\":" ++ quoted name ++ codes ",\"code\":" ++ decimal key.code ++ codes ",\"vendor\":" ++ decimal key.vendor ++ codes "}"

abbrev pub named_json : Dictionary → Named → List ℕ
named_json d (named.Key key) = avp_json (named_text d (named.Key key)) key
named_json d named.Others = codes ",\"avp\":{\"name\":\"AVP\"}"
named_json d (named.Base avp) = avp_json (named_text d (named.Base avp)) (base_key avp)

-- an entry of the dictionary
abbrev pub entry_json : Dictionary → ℕ → List ℕ
entry_json d e = option_map_or (λ x. avp_json x.name x.key) (slice_get d.entries e) []

abbrev pub subject_json : Dictionary → Subject → List ℕ
subject_json d (subject.Definition n) = definition_json (def_name d n)
subject_json d (subject.Avp e) = entry_json d e
subject_json d (subject.Within n who) = definition_json (def_name d n) ++ named_json d who

-- of a finding at an offset of the text
abbrev pub object_at : Dictionary → List ℕ → List ℕ → ℕ → Finding → List ℕ → List ℕ
object_at d file text at found detail =
    rule_json found.rule ++ place_json file text at ++ subject_json d found.subject ++ (codes ",\"detail\":" ++ quoted detail ++ codes "}\n")

-- ---- a finding as a line of text: `FILE:LINE:COLUMN: RULE SUBJECT: DETAIL`

abbrev pub plain_line : Question → List ℕ → PlainRow → Finding → List ℕ
plain_line q text row found =
    (q.file ++ codes ":" ++ decimal (line_at text row.at) ++ codes ":" ++ decimal (column_at text row.at) ++ codes ": ")
    ++ (rule_word found.rule ++ codes " " ++ row.subject ++ codes ": " ++ row.detail ++ codes "\n")

abbrev pub line_by : Question → Dictionary → List ℕ → PlainRow → Finding → List ℕ
line_by q d text row found = if q.json then object_at d q.file text row.at found row.detail else plain_line q text row found

-- that of a row, whose finding is in the list
abbrev pub line_of : Question → Dictionary → List ℕ → List Finding → PlainRow → List ℕ
line_of q d text found row = option_map_or (line_by q d text row) (slice_get found row.finding) []

-- ---- what the list of accepted lines leaves

-- what counts of a row, by its finding
abbrev pub words_by : Option Finding → PlainRow → List ℕ
words_by found row = option_map_or (λ x. counted_words x.rule row.subject row.detail) found []

abbrev pub recorded_by : Option Finding → PlainRow → PlainRecorded
recorded_by found row = record { command = 0; words = words_by found row; message = [] }

abbrev pub recorded_of : List Finding → PlainRow → PlainRecorded
recorded_of found row = recorded_by (slice_get found row.finding) row

abbrev pub is_accepted : List PlainEntry → List Finding → PlainRow → Bool
is_accepted list found row = list_any (accepts (words_by (slice_get found row.finding) row)) list

abbrev pub left_of : List PlainEntry → List Finding → List PlainRow → List PlainRow
left_of list found rows = filter (λ row. not (is_accepted list found row)) rows

-- how many lines it accepts
abbrev pub accepted_of : List PlainEntry → List Finding → List PlainRow → ℕ
accepted_of list found rows = count_by (is_accepted list found) rows

-- the entries that accept no line
abbrev pub stale_of : List PlainEntry → List Finding → List PlainRow → List PlainEntry
stale_of list found rows = unused_of list (map (recorded_of found) rows)

-- ---- what follows the lines

abbrev pub nothing_text : ℕ → List ℕ
nothing_text accepted = if accepted == 0 then codes "nothing found\n" else codes "nothing else found\n"

abbrev pub stale_line : PlainEntry → List ℕ
stale_line e = codes "stale: " ++ e.words ++ codes "\n"

-- strings with commas between them
abbrev pub another : List ℕ → List ℕ
another e = codes "," ++ quoted e

abbrev pub strings : List (List ℕ) → List ℕ
strings [] = []
strings (e ∷ es) = quoted e ++ flat_map another es

-- how many rules have these numbers
abbrev pub rules_among : List ℕ → ℕ
rules_among numbers = count_by (λ r. list_any (nat_eq (rule_number r)) numbers) rules

abbrev pub counts_json : List ℕ → ℕ → List PlainEntry → List ℕ
counts_json numbers accepted stale =
    (codes "{\"lines\":" ++ decimal (length numbers) ++ codes ",\"rules\":" ++ decimal (rules_among numbers) ++ codes ",\"accepted\":" ++ decimal accepted
    ++ codes ",\"stale\":[") ++ strings (map (λ e. e.words) stale) ++ codes "]}\n"

-- there is neither a line nor a stale entry
abbrev pub has_nothing : List ℕ → List PlainEntry → Bool
has_nothing numbers stale = length numbers == 0 && length stale == 0

abbrev pub ending_text : List ℕ → ℕ → List PlainEntry → List ℕ
ending_text numbers accepted stale = if has_nothing numbers stale then nothing_text accepted else flat_map stale_line stale

-- by the numbers of the rules of the lines, how many lines the list accepts, and its stale entries
abbrev pub ending : Bool → List ℕ → ℕ → List PlainEntry → List ℕ
ending json numbers accepted stale = if json then counts_json numbers accepted stale else ending_text numbers accepted stale

abbrev pub exit_of : List ℕ → List PlainEntry → Exit
exit_of numbers stale = if has_nothing numbers stale then exits.Yes else exits.No
