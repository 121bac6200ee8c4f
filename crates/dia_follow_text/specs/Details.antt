-- What a departure or a note says of its message.
use Rattle.std.specs.Prelude.{ℕ, Bool, true, false, if◌then◌else◌, List, [], ◌++◌, length, Option, Some, None, codes, is_some, option_map, unwrap_or}
use Rattle.std.specs.Option.{option_map_or}
use Rattle.std.specs.Fmt.{decimal}
use Rattle.dia_follow.specs.declared.Reason.{Reason}
use Rattle.dia_follow.specs.declared.Reason.TheVariants as reason
use Rattle.dia_follow.specs.declared.Body.{Body}
use Rattle.dia_follow.specs.declared.Body.TheVariants.{Cut, Gap, Known}
use Rattle.dia_follow.specs.declared.Head.{Head}
use Rattle.dia_follow.specs.declared.Request.{Request}
use Rattle.dia_follow.specs.Moments.{PlainMoment}
use Rattle.dia_follow.specs.Connections.{state_in}
use Rattle.dia_follow.specs.Messages.{contents_of, is_base_code}
use Rattle.dia_follow.specs.Waits.{dwr_line, since}
use Rattle.dia_follow.specs.Kept.{stray_line}
use Rattle.dia_follow_text.specs.declared.details.TheConstants.{MOST_WAITING}
use Rattle.dia_follow.specs.Departures.{known_common}
use Rattle.dia_follow.specs.Messages.{result_of}
use Rattle.dia_follow_text.specs.Commons.{known_common_text}
use Rattle.dia_follow_text.specs.Hosts.{hosts_text}
use Rattle.dia_follow_text.specs.Times.{after, seconds}

abbrev pub gap_text : Body → List ℕ
gap_text (Gap at) = codes "no AVP begins at byte " ++ decimal at
gap_text Cut = []
gap_text (Known c) = []

-- numbers of an answer and of its request
abbrev pub unlike : ℕ → ℕ → ℕ → List ℕ
unlike own wanted line = decimal own ++ codes ", " ++ decimal wanted ++ codes " in line " ++ decimal line

-- fields that an answer repeats: the End-to-End Identifier, the Command Code, and else the Application-ID
abbrev pub field_pair : Reason → Head → Request → ℕ × ℕ
field_pair reason.EndToEnd h q = (h.e2e, q.e2e)
field_pair reason.Command h q = (h.code, q.code)
field_pair r h q = (h.app, q.app)

abbrev pub field_text : Reason → Head → Option Request → List ℕ
field_text r h None = []
field_text r h (Some q) = unlike (field_pair r h q).0 (field_pair r h q).1 q.line

-- the line that a departure or a note speaks of
abbrev pub request_line : Option Request → Option ℕ
request_line q = option_map (λ r. r.line) q

abbrev pub other_line : Reason → PlainMoment → Option ℕ
other_line reason.HopByHop m = since m.own.waits m.message.head.hop
other_line reason.WatchdogWaits m = dwr_line m.own.waits
other_line reason.Order m = stray_line m.other.strays m.message.head.hop m.message.head.e2e m.message.head.code
other_line reason.WatchdogEarly m = option_map (λ d. d.line) m.own.dwr
other_line reason.EndToEnd m = request_line m.request
other_line reason.Command m = request_line m.request
other_line reason.Application m = request_line m.request
other_line reason.Proxiable m = request_line m.request
other_line reason.SessionId m = request_line m.request
other_line r m = None

-- of a message that is cut, and of one that has bytes after it
abbrev pub sizes : Bool → ℕ → ℕ → List ℕ
sizes true count len = decimal count ++ codes " of " ++ decimal len ++ codes " bytes"
sizes false count len = decimal count ++ codes " bytes for " ++ decimal len

-- how long a message comes after the last DWR of its end
abbrev pub interval : PlainMoment → ℕ
interval m = option_map_or (λ d. unwrap_or (after d.time m.line.time) 0) m.own.dwr 0

-- how long a message comes after the line before
abbrev pub silence_text : PlainMoment → List ℕ
silence_text m = seconds (unwrap_or (after m.last m.line.time) 0) ++ codes " s"

-- the Origin-State-Id of a message, and the one before
abbrev pub states_text : PlainMoment → List ℕ
states_text m = decimal (unwrap_or (state_in m.message.body) 0) ++ codes ", " ++ decimal (unwrap_or m.own.origin_state 0) ++ codes " before"

abbrev pub since_text : ℕ → ℕ → List ℕ
since_text hop line = decimal hop ++ codes " waits since line " ++ decimal line

abbrev pub order_text : ℕ → List ℕ
order_text line = codes "line " ++ decimal line ++ codes " answers this one"

abbrev pub interval_text : ℕ → ℕ → List ℕ
interval_text n line = seconds n ++ codes " behind line " ++ decimal line

abbrev pub earlier_at : Reason → PlainMoment → ℕ → List ℕ
earlier_at reason.HopByHop m line = since_text m.message.head.hop line
earlier_at reason.WatchdogWaits m line = codes "the DWR of line " ++ decimal line ++ codes " waits"
earlier_at reason.Order m line = order_text line
earlier_at r m line = interval_text (interval m) line

abbrev pub earlier_text : Reason → PlainMoment → Option ℕ → List ℕ
earlier_text r m None = []
earlier_text r m (Some line) = earlier_at r m line

-- what of an answer isn't as in its request
abbrev pub unlike_flag : Bool → List ℕ
unlike_flag true = codes "P clear, set in line "
unlike_flag false = codes "P set, clear in line "

abbrev pub unlike_session : Bool → List ℕ
unlike_session true = codes "another in line "
unlike_session false = codes "none, one in line "

abbrev pub has_session : PlainMoment → Bool
has_session m = option_map_or (λ c. is_some c.session) (contents_of m.message.body) false

abbrev pub number_text : Reason → Head → List ℕ
number_text reason.NotAdvertised h = decimal h.app ++ codes " isn't advertised by the other end"
number_text reason.OwnApplication h = decimal h.app ++ codes " isn't advertised by this end"
number_text r h = codes "no request with " ++ decimal h.hop ++ codes " waits"

-- what an answer lacks: one of a command between neighbors, or another
abbrev pub no_result_text : Bool → List ℕ
no_result_text true = codes "no Result-Code"
no_result_text false = codes "neither Result-Code nor Experimental-Result"

-- a text without numbers
abbrev pub plain_text : Reason → Head → List ℕ
plain_text reason.Bits h = if h.request then codes "E in a request" else codes "T in an answer"
plain_text reason.NoCer h = codes "the first message of the connection"
plain_text reason.CerFromAcceptor h = codes "the other end opened the connection"
plain_text reason.CerAgain h = codes "the CER of this connection is sent"
plain_text reason.BeforeCea h = codes "no CEA yet"
plain_text reason.AfterDpr h = codes "its DPR is sent"
plain_text reason.AfterDpa h = codes "its DPA is sent"
plain_text reason.Destination h = codes "an answer has none"
plain_text reason.NoResult h = no_result_text (is_base_code h.code)
plain_text reason.AnswersBefore h = codes "no request that is known"
plain_text reason.Again h = codes "T is set"
plain_text reason.Kinds h = codes "auth of one end, acct of the other"
plain_text reason.GoesOn h = codes "behind a CEA that refuses"
plain_text r h = []

abbrev pub forgotten_text : List ℕ
forgotten_text = codes "more than " ++ decimal MOST_WAITING ++ codes " requests wait"

abbrev pub unlike_text : Reason → PlainMoment → Option Request → List ℕ
unlike_text r m None = []
unlike_text reason.Proxiable m (Some q) = unlike_flag q.proxiable ++ decimal q.line
unlike_text r m (Some q) = unlike_session (has_session m) ++ decimal q.line

-- what a Result-Code doesn't go with
abbrev pub with_flag : Bool → List ℕ
with_flag true = codes " with E"
with_flag false = codes " without E"

abbrev pub result_text : Reason → PlainMoment → ℕ → List ℕ
result_text reason.NoCommon m code = decimal code ++ codes ", and no application of the CER"
result_text reason.CommonRefused m code = decimal code ++ codes ", and common " ++ known_common_text (known_common m)
result_text r m code = decimal code ++ with_flag m.message.head.error

abbrev pub on_result : Reason → PlainMoment → Option ℕ → List ℕ
on_result r m None = []
on_result r m (Some code) = result_text r m code

-- the text of a departure or a note. `verdict` is what `check` reports
abbrev pub detail_text : PlainMoment → List ℕ → Reason → List ℕ
detail_text m verdict reason.Invalid = verdict
detail_text m verdict reason.AvpLength = gap_text m.message.body
detail_text m verdict reason.EndToEnd = field_text reason.EndToEnd m.message.head m.request
detail_text m verdict reason.Command = field_text reason.Command m.message.head m.request
detail_text m verdict reason.Application = field_text reason.Application m.message.head m.request
detail_text m verdict reason.Proxiable = unlike_text reason.Proxiable m m.request
detail_text m verdict reason.SessionId = unlike_text reason.SessionId m m.request
detail_text m verdict reason.NoCommon = on_result reason.NoCommon m (result_of m.message.body)
detail_text m verdict reason.CommonRefused = on_result reason.CommonRefused m (result_of m.message.body)
detail_text m verdict reason.ErrorFlag = on_result reason.ErrorFlag m (result_of m.message.body)
detail_text m verdict reason.OriginHost = hosts_text m
detail_text m verdict reason.Truncated = sizes true (length m.line.bytes.now) m.message.length
detail_text m verdict reason.Trailing = sizes false (length m.line.bytes.now) m.message.length
detail_text m verdict reason.HopByHop = earlier_text reason.HopByHop m (other_line reason.HopByHop m)
detail_text m verdict reason.WatchdogWaits = earlier_text reason.WatchdogWaits m (other_line reason.WatchdogWaits m)
detail_text m verdict reason.Order = earlier_text reason.Order m (other_line reason.Order m)
detail_text m verdict reason.WatchdogEarly = earlier_text reason.WatchdogEarly m (other_line reason.WatchdogEarly m)
detail_text m verdict reason.NotAdvertised = number_text reason.NotAdvertised m.message.head
detail_text m verdict reason.OwnApplication = number_text reason.OwnApplication m.message.head
detail_text m verdict reason.AnswersNothing = number_text reason.AnswersNothing m.message.head
detail_text m verdict reason.Silence = silence_text m
detail_text m verdict reason.OriginState = states_text m
detail_text m verdict reason.Forgotten = forgotten_text
detail_text m verdict r = plain_text r m.message.head
