-- The answer to a message: its line, its departures and the notes on it. `verdict` is what `check` reports.
use Rattle.std.specs.Prelude.{ℕ, Bool, if◌then◌else◌, List, ◌++◌, length}
use Rattle.std.specs.List.{flat_map, list_any}
use Rattle.dia_dict.specs.Dictionary.{Dictionary}
use Rattle.dia_follow.specs.declared.End.{End}
use Rattle.dia_follow.specs.declared.Line.{Line}
use Rattle.dia_follow.specs.declared.Reason.{Reason}
use Rattle.dia_follow.specs.declared.Request.{Request}
use Rattle.dia_follow.specs.declared.Seen.{Seen}
use Rattle.dia_follow.specs.declared.Seen.TheVariants.{Unread, Message}
use Rattle.dia_follow.specs.Connections.{PlainConnection, findings_of, moment}
use Rattle.dia_follow.specs.Moments.{PlainMoment}
use Rattle.dia_follow_text.specs.declared.entry.BadLine.{BadLine}
use Rattle.dia_follow_text.specs.Entries.{bad_line_text}
use Rattle.dia_follow_text.specs.Objects.{bad_line_object, finding_object, message_object, unanswered_object, unread_finding_object, unread_object}
use Rattle.dia_follow_text.specs.Reasons.{is_departure}
use Rattle.dia_follow_text.specs.Said.{finding_line, message_line, unanswered_line, unread_finding_line, unread_line}

-- ---- one line, as JSON or as text

abbrev pub unread : Bool → ℕ → End → ℕ → List ℕ
unread json number e count = if json then unread_object number e count else unread_line number e count

abbrev pub unread_finding : Bool → ℕ → End → List ℕ → List ℕ → Reason → List ℕ
unread_finding json number e bytes verdict r = if json then unread_finding_object number e bytes verdict r else unread_finding_line number e bytes verdict r

abbrev pub message_text : Bool → Dictionary → End → PlainMoment → List ℕ
message_text json d e m = if json then message_object d e m else message_line d e m

abbrev pub finding : Bool → End → PlainMoment → List ℕ → Reason → List ℕ
finding json e m verdict r = if json then finding_object e m verdict r else finding_line e m verdict r

abbrev pub unanswered : Bool → Dictionary → End → Request → List ℕ
unanswered json d e q = if json then unanswered_object d e q else unanswered_line d e q

abbrev pub bad_line : Bool → ℕ → BadLine → List ℕ
bad_line json number bad = if json then bad_line_object number bad else bad_line_text number bad

-- ---- the lines of one message

abbrev pub unread_answer : Bool → ℕ → End → List ℕ → List ℕ → List Reason → List ℕ
unread_answer json number e bytes verdict found = unread json number e (length bytes) ++ flat_map (unread_finding json number e bytes verdict) found

abbrev pub message_answer : Bool → Dictionary → End → PlainMoment → List ℕ → List Reason → List ℕ
message_answer json d e m verdict found = message_text json d e m ++ flat_map (finding json e m verdict) found

abbrev pub answer_by : Bool → Dictionary → PlainConnection → End → Line → List ℕ → List Reason → Seen → List ℕ
answer_by json d c e line verdict found (Unread fault) = unread_answer json line.number e line.bytes.now verdict found
answer_by json d c e line verdict found (Message m) = message_answer json d e (moment c e line m) verdict found

-- after the lines that made the connection what it is
abbrev pub answer_text : Bool → Dictionary → PlainConnection → End → Line → List ℕ → List ℕ
answer_text json d c e line verdict = answer_by json d c e line verdict (findings_of c e line) line.seen

-- one of them is a departure
abbrev pub departs : List Reason → Bool
departs found = list_any is_departure found
