-- The lines of the answer, as text.
use Rattle.std.specs.Prelude.{ℕ, ◌&&◌, Bool, true, false, if◌then◌else◌, List, [], ◌++◌, Option, Some, None, codes, is_some}
use Rattle.std.specs.Fmt.{decimal}
use Rattle.dia_dict.specs.Dictionary.{Dictionary}
use Rattle.dia_follow.specs.declared.End.{End}
use Rattle.dia_follow.specs.declared.Head.{Head}
use Rattle.dia_follow.specs.declared.Request.{Request}
use Rattle.dia_follow.specs.declared.Reason.{Reason}
use Rattle.dia_follow.specs.Contents.{PlainContents}
use Rattle.dia_follow.specs.Departures.{is_cea, known_common}
use Rattle.dia_follow.specs.Messages.{contents_of, is_success, result_of}
use Rattle.dia_follow.specs.Moments.{PlainMoment}
use Rattle.dia_follow_text.specs.Commons.{known_common_text}
use Rattle.dia_follow_text.specs.Details.{detail_text}
use Rattle.dia_follow_text.specs.Names.{mark, name_of}
use Rattle.dia_follow_text.specs.Reasons.{kind, section, word}
use Rattle.dia_follow_text.specs.Times.{after, seconds}
use Rattle.dia_follow_text.specs.Unread.{unread_text}

-- bytes whose header can't be read
abbrev pub unread_line : ℕ → End → ℕ → List ℕ
unread_line number e count = decimal number ++ codes " " ++ mark e ++ codes " unread " ++ decimal count ++ codes " bytes\n"

abbrev pub kind_word : Bool → List ℕ
kind_word true = codes "request"
kind_word false = codes "answer"

-- the fields of a header
abbrev pub fields_text : Head → List ℕ
fields_text h = codes " app " ++ decimal h.app ++ codes " hop " ++ decimal h.hop ++ codes " end " ++ decimal h.e2e

abbrev pub front_text : ℕ → End → Bool → List ℕ
front_text number e request = decimal number ++ codes " " ++ mark e ++ codes " " ++ kind_word request ++ codes " "

abbrev pub head_text : Dictionary → ℕ → End → Head → List ℕ
head_text d number e h = front_text number e h.request ++ name_of d h.code h.request h.app ++ fields_text h

-- the Result-Code, or the Experimental-Result
abbrev pub code_text : Option ℕ → Option (ℕ × ℕ) → List ℕ
code_text (Some code) other = codes " code " ++ decimal code
code_text None (Some pair) = codes " code " ++ decimal pair.0 ++ codes ":" ++ decimal pair.1
code_text None None = []

abbrev pub after_text : Option ℕ → List ℕ
after_text None = []
after_text (Some n) = codes " after " ++ seconds n

-- the section of a departure, and the end of its line
abbrev pub section_text : Option (List ℕ) → List ℕ
section_text None = codes "\n"
section_text (Some section) = codes " (RFC 6733 " ++ section ++ codes ")\n"

-- a request that has no answer
abbrev pub unanswered_line : Dictionary → End → Request → List ℕ
unanswered_line d e q = decimal q.line ++ codes " " ++ mark e ++ codes " note unanswered: " ++ name_of d q.code true q.app ++ codes "\n"

-- ---- a message

abbrev pub cause_of_text : Option ℕ → List ℕ
cause_of_text None = []
cause_of_text (Some cause) = codes " cause " ++ decimal cause

-- the Disconnect-Cause
abbrev pub cause_text : Option PlainContents → List ℕ
cause_text None = []
cause_text (Some contents) = cause_of_text contents.cause

abbrev pub contents_code : Option PlainContents → List ℕ
contents_code None = []
contents_code (Some contents) = code_text contents.result contents.experimental

abbrev pub error_text : Bool → List ℕ
error_text true = codes " E"
error_text false = []

-- the line of the request of an answer, and how long after it the answer comes
abbrev pub answered_text : Option ℕ → Option Request → List ℕ
answered_text time None = []
answered_text time (Some q) = codes " answers " ++ decimal q.line ++ after_text (after q.time time)

-- the common applications of a CEA of success, where both sets are known
abbrev pub is_opening : PlainMoment → Bool
is_opening m = is_cea m && is_success (result_of m.message.body) && is_some (known_common m)

abbrev pub opening_text : PlainMoment → List ℕ
opening_text m = if is_opening m then codes " common " ++ known_common_text (known_common m) else []

abbrev pub answer_rest : PlainMoment → List ℕ
answer_rest m = contents_code (contents_of m.message.body) ++ error_text m.message.head.error ++ answered_text m.line.time m.request ++ opening_text m

abbrev pub rest_text : PlainMoment → List ℕ
rest_text m = if m.message.head.request then cause_text (contents_of m.message.body) else answer_rest m

abbrev pub message_line : Dictionary → End → PlainMoment → List ℕ
message_line d e m = head_text d m.line.number e m.message.head ++ rest_text m ++ codes "\n"

-- ---- a departure or a note. `verdict` is what `check` reports

abbrev pub reason_front : ℕ → End → Reason → List ℕ
reason_front number e r = decimal number ++ codes " " ++ mark e ++ codes " " ++ kind r ++ codes " " ++ word r ++ codes ": "

abbrev pub finding_line : End → PlainMoment → List ℕ → Reason → List ℕ
finding_line e m verdict r = reason_front m.line.number e r ++ detail_text m verdict r ++ section_text (section r (result_of m.message.body))

-- on bytes whose header can't be read
abbrev pub unread_finding_line : ℕ → End → List ℕ → List ℕ → Reason → List ℕ
unread_finding_line number e bytes verdict r = reason_front number e r ++ unread_text bytes verdict r ++ section_text (section r None)
