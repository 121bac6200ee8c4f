-- A line of `breaking` as a JSON object (RFC 8259), by its parts. Its members are in this order.
use Rattle.std.specs.Prelude.{ℕ, Bool, true, false, List, [], ◌∷◌, ◌++◌, codes, Option}
use Rattle.std.specs.Option.{option_map_or}
use Rattle.serde_json.specs.Data.{array, boolean, null}
use Rattle.serde_json.specs.Written.{compact_text}
use Rattle.dia_wire.specs.declared.Key.{Key}
use Rattle.dia_breaking.specs.declared.Standing.{Standing}
use Rattle.dia_breaking.specs.declared.Standing.TheVariants.{Undecided}
use Rattle.dia_breaking.specs.declared.LineReason.{LineReason}
use Rattle.dia_breaking.specs.declared.LineReason.TheVariants.{Command, Application, Proxiable}
use Rattle.dia_breaking.specs.LineParts.{PlainAmount, PlainParts, PlainPath, PlainSubject, amount_text, reason_text, Counts}
use Rattle.dia_breaking.specs.LineParts as subjects
use Rattle.dia_upgrades_json.specs.Fields.{Field, object_of, strings, text_field}
use Rattle.dia_upgrades_json.specs.Members.{avp_fields, unsigned_field}
use Rattle.dia_upgrades_json.specs.Spots.{PlainTexts, spot_fields}

-- ---- where it is

abbrev pub undecided_field : Standing → List Field
undecided_field Undecided = (codes "undecided", boolean true) ∷ []
undecided_field other = []

abbrev pub application_field : Option ℕ → List Field
application_field app = option_map_or (unsigned_field (codes "application")) app []

-- the command, the application of B's definition if the path names it, and the names of the groups
abbrev pub path_fields : PlainPath → List Field
path_fields path = text_field (codes "command") path.command ++ application_field path.application ++ ((codes "path", array (strings path.groups)) ∷ [])

-- with `--once` the number of commands, and the first place
abbrev pub first_fields : ℕ → PlainPath → List Field
first_fields commands path = unsigned_field (codes "commands") commands ++ ((codes "first", object_of (path_fields path)) ∷ [])

-- ---- what it is about

abbrev pub reason_field : Option LineReason → List Field
reason_field reason = option_map_or (λ why. text_field (codes "reason") (reason_text why)) reason []

-- an AVP with the code and vendor of its name, by the look-ups of the two dictionaries
abbrev pub subject_field : (first second : List ℕ → Option Key) → PlainSubject → List Field
subject_field first second subjects.Header = []
subject_field first second (subjects.Application app) = unsigned_field (codes "refused_application") app
subject_field first second (subjects.Avp name) = (codes "avp", object_of (avp_fields name (first name) (second name))) ∷ []

-- the reasons of headers
abbrev pub is_of_header : LineReason → Bool
is_of_header Command = true
is_of_header Application = true
is_of_header Proxiable = true
is_of_header other = false

abbrev pub header_field : Option LineReason → List Field
header_field reason = (codes "in_header", boolean (option_map_or is_of_header reason false)) ∷ []

-- ---- what is sent, accepted or read

-- the greatest count; `null` where there is none
abbrev pub most_field : List ℕ → Option ℕ → List Field
most_field name most = option_map_or (unsigned_field name) most ((name, null) ∷ [])

abbrev pub count_fields : (least most : List ℕ) → PlainAmount → List Field
count_fields least most (Counts min max) = unsigned_field least min ++ most_field most max
count_fields least most other = []

abbrev pub amount_fields : (name least most : List ℕ) → PlainAmount → List Field
amount_fields name least most amount = text_field name (amount_text amount) ++ count_fields least most amount

abbrev pub sent_fields : Option PlainAmount → List Field
sent_fields sent = option_map_or (amount_fields (codes "sent") (codes "sent_min") (codes "sent_max")) sent []

abbrev pub accepted_fields : Option PlainAmount → List Field
accepted_fields accepted = option_map_or (amount_fields (codes "accepted") (codes "accepted_min") (codes "accepted_max")) accepted []

-- a text, if there is one
abbrev pub text_if : (name : List ℕ) → Option (List ℕ) → List Field
text_if name text = option_map_or (text_field name) text []

abbrev pub detail_fields : PlainParts → List Field
detail_fields parts = sent_fields parts.sent ++ text_if (codes "behind") parts.following ++ accepted_fields parts.accepted ++ text_if (codes "read") parts.read

-- ---- the line

abbrev pub matter_fields : (first second : List ℕ → Option Key) → PlainParts → List Field
matter_fields first second parts = reason_field parts.reason ++ subject_field first second parts.subject ++ detail_fields parts ++ header_field parts.reason

-- a line in this place, with its words, and with the hexadecimal digits of its message, if it has one; the look-ups by name and the texts are those of
-- the two dictionaries
abbrev pub fields_at : List Field → (first second : List ℕ → Option Key) → PlainTexts → PlainParts → (words : List ℕ) → Option (List ℕ) → List Field
fields_at place first second texts parts words message =
    undecided_field parts.standing ++ place ++ matter_fields first second parts ++ text_if (codes "message") message ++ spot_fields texts parts
    ++ text_field (codes "text") words

unfoldable pub line_object : (first second : List ℕ → Option Key) → PlainTexts → PlainParts → (words : List ℕ) → Option (List ℕ) → List ℕ
line_object first second texts parts words message = compact_text (object_of (fields_at (path_fields parts.path) first second texts parts words message))

-- the cause of a line, which so many commands have
unfoldable pub cause_object : (first second : List ℕ → Option Key) → PlainTexts → ℕ → PlainParts → (words : List ℕ) → Option (List ℕ) → List ℕ
cause_object first second texts commands parts words message = compact_text (object_of (fields_at (first_fields commands parts.path) first second texts parts words message))
