-- The lines of the answer, as JSON: an object a line (RFC 8259).
use Rattle.std.specs.Prelude.{ℕ, Bool, true, false, if◌then◌else◌, List, [], ◌++◌, Option, Some, None, codes}
use Rattle.std.specs.Fmt.{decimal}
use Rattle.json.specs.Print.{quoted}
use Rattle.dia_dict.specs.Dictionary.{Dictionary}
use Rattle.dia_follow.specs.declared.End.{End}
use Rattle.dia_follow.specs.declared.Head.{Head}
use Rattle.dia_follow.specs.declared.Reason.{Reason}
use Rattle.dia_follow.specs.declared.Reason.TheVariants as reason
use Rattle.dia_follow.specs.declared.Request.{Request}
use Rattle.dia_follow.specs.Contents.{PlainContents}
use Rattle.dia_follow.specs.Departures.{known_common}
use Rattle.dia_follow.specs.Messages.{contents_of, result_of}
use Rattle.dia_follow.specs.Moments.{PlainMoment}
use Rattle.dia_follow_text.specs.declared.entry.BadLine.{BadLine}
use Rattle.dia_follow_text.specs.Commons.{known_common_text}
use Rattle.dia_follow_text.specs.Details.{detail_text, other_line}
use Rattle.dia_follow_text.specs.Entries.{bad_word}
use Rattle.dia_follow_text.specs.Names.{mark, name_of}
use Rattle.dia_follow_text.specs.Reasons.{kind, section, word}
use Rattle.dia_follow_text.specs.Said.{is_opening, kind_word}
use Rattle.dia_follow_text.specs.Times.{after}
use Rattle.dia_follow_text.specs.Unread.{unread_text}

-- a line that is refused
abbrev pub bad_line_object : ℕ → BadLine → List ℕ
bad_line_object number bad = codes "{\"error\":\"connection\",\"kind\":\"" ++ bad_word bad ++ codes "\",\"line\":" ++ decimal number ++ codes "}\n"

-- each object begins so
abbrev pub begin_text : ℕ → End → List ℕ
begin_text number e = codes "{\"line\":" ++ decimal number ++ codes ",\"end\":\"" ++ mark e ++ codes "\""

-- bytes whose header can't be read
abbrev pub unread_object : ℕ → End → ℕ → List ℕ
unread_object number e count = begin_text number e ++ codes ",\"message\":\"unread\",\"bytes\":" ++ decimal count ++ codes "}\n"

-- ---- a message

abbrev pub identifier_members : Head → List ℕ
identifier_members h = codes ",\"code\":" ++ decimal h.code ++ codes ",\"application\":" ++ decimal h.app ++ codes ",\"hop_by_hop\":" ++ decimal h.hop ++ codes ",\"end_to_end\":" ++ decimal h.e2e

abbrev pub head_members : Dictionary → Head → List ℕ
head_members d h = codes ",\"message\":\"" ++ kind_word h.request ++ codes "\",\"command\":" ++ quoted (name_of d h.code h.request h.app) ++ identifier_members h

abbrev pub cause_of_member : Option ℕ → List ℕ
cause_of_member None = []
cause_of_member (Some cause) = codes ",\"cause\":" ++ decimal cause

-- the Disconnect-Cause
abbrev pub cause_member : Option PlainContents → List ℕ
cause_member None = []
cause_member (Some contents) = cause_of_member contents.cause

-- the Result-Code, or the Experimental-Result
abbrev pub code_members : Option ℕ → Option (ℕ × ℕ) → List ℕ
code_members (Some code) other = codes ",\"result\":" ++ decimal code
code_members None (Some pair) = codes ",\"result\":" ++ decimal pair.1 ++ codes ",\"vendor\":" ++ decimal pair.0
code_members None None = []

abbrev pub contents_members : Option PlainContents → List ℕ
contents_members None = []
contents_members (Some contents) = code_members contents.result contents.experimental

abbrev pub error_member : Bool → List ℕ
error_member true = codes ",\"error_flag\":true"
error_member false = []

-- in nanoseconds
abbrev pub duration_member : Option ℕ → List ℕ
duration_member None = []
duration_member (Some n) = codes ",\"after\":" ++ decimal n

-- the line of the request of an answer, and how long after it the answer comes
abbrev pub answered_members : Option ℕ → Option Request → List ℕ
answered_members time None = []
answered_members time (Some q) = codes ",\"answers\":" ++ decimal q.line ++ duration_member (after q.time time)

-- the common applications of a CEA of success, where both sets are known
abbrev pub opening_member : PlainMoment → List ℕ
opening_member m = if is_opening m then codes ",\"common\":\"" ++ known_common_text (known_common m) ++ codes "\"" else []

abbrev pub answer_members : PlainMoment → List ℕ
answer_members m = contents_members (contents_of m.message.body) ++ error_member m.message.head.error ++ answered_members m.line.time m.request ++ opening_member m

abbrev pub rest_members : PlainMoment → List ℕ
rest_members m = if m.message.head.request then cause_member (contents_of m.message.body) else answer_members m

abbrev pub message_object : Dictionary → End → PlainMoment → List ℕ
message_object d e m = begin_text m.line.number e ++ head_members d m.message.head ++ rest_members m ++ codes "}\n"

-- ---- a departure or a note. `verdict` is what `check` reports

abbrev pub section_member : Option (List ℕ) → List ℕ
section_member None = []
section_member (Some section) = codes ",\"section\":\"" ++ section ++ codes "\""

abbrev pub reason_members : Reason → Option (List ℕ) → List ℕ → List ℕ
reason_members r section detail = codes ",\"" ++ kind r ++ codes "\":\"" ++ word r ++ codes "\"" ++ section_member section ++ codes ",\"text\":" ++ quoted detail

-- the line that it speaks of
abbrev pub line_word : Reason → List ℕ
line_word reason.Order = codes "answer"
line_word r = codes "request"

abbrev pub line_member : Reason → Option ℕ → List ℕ
line_member r None = []
line_member r (Some line) = codes ",\"" ++ line_word r ++ codes "\":" ++ decimal line

abbrev pub finding_object : End → PlainMoment → List ℕ → Reason → List ℕ
finding_object e m verdict r = begin_text m.line.number e ++ reason_members r (section r (result_of m.message.body)) (detail_text m verdict r) ++ line_member r (other_line r m) ++ codes "}\n"

-- on bytes whose header can't be read
abbrev pub unread_finding_object : ℕ → End → List ℕ → List ℕ → Reason → List ℕ
unread_finding_object number e bytes verdict r = begin_text number e ++ reason_members r (section r None) (unread_text bytes verdict r) ++ codes "}\n"

-- a request that has no answer
abbrev pub unanswered_object : Dictionary → End → Request → List ℕ
unanswered_object d e q = begin_text q.line e ++ codes ",\"note\":\"unanswered\",\"text\":" ++ quoted (name_of d q.code true q.app) ++ codes "}\n"
