-- The departures from RFC 6733, and the notes: each is a test of what is there as a message comes. Sections are those of RFC 6733.
use Rattle.std.specs.Prelude.{ℕ, ◌-◌, ◌/◌, ◌==◌, ◌&&◌, ◌||◌, Bool, true, false, not, nat_lt, nat_le, if◌then◌else◌, List, [], ◌∷◌, ◌++◌, length, map, filter, Option, Some, None, is_some, option_map}
use Rattle.std.specs.Option.{option_map_or}
use Rattle.dia_wire.specs.declared.header.HeadFault.{HeadFault}
use Rattle.dia_wire.specs.declared.header.HeadFault.TheVariants as fault
use Rattle.dia_follow.specs.declared.codes.TheConstants.{CAPABILITIES_EXCHANGE, DEVICE_WATCHDOG, NO_COMMON_APPLICATION, SILENCE, WATCHDOG_INTERVAL}
use Rattle.dia_follow.specs.declared.end.End.{End}
use Rattle.dia_follow.specs.declared.end.End.TheVariants.{Initiator, Responder}
use Rattle.dia_follow.specs.declared.phase.Phase.{Phase}
use Rattle.dia_follow.specs.declared.phase.Phase.TheVariants.{Start, Asked, Open, Refused, Middle}
use Rattle.dia_follow.specs.declared.message.Body.{Body}
use Rattle.dia_follow.specs.declared.message.Body.TheVariants.{Cut, Gap, Known}
use Rattle.dia_follow.specs.declared.message.Judged.{Judged}
use Rattle.dia_follow.specs.declared.message.Judged.TheVariants as judged
use Rattle.dia_follow.specs.declared.request.Request.{Request}
use Rattle.dia_follow.specs.declared.reason.Reason.{Reason}
use Rattle.dia_follow.specs.declared.reason.Reason.TheVariants as reason
use Rattle.dia_follow.specs.Ends.{asker, is_agreed, same_end}
use Rattle.dia_follow.specs.Applications.{Apps, is_relay, serves, shares_number}
use Rattle.dia_follow.specs.Commons.{common_apps, has_common}
use Rattle.dia_follow.specs.Contents.{PlainContents}
use Rattle.dia_follow.specs.Kept.{has_stray, same_host}
use Rattle.dia_follow.specs.Messages.{contents_of, is_base_code, is_cer, is_success, result_of}
use Rattle.dia_follow.specs.Moments.{PlainMoment}
use Rattle.dia_follow.specs.Requests.{PlainSession, is_session}
use Rattle.dia_follow.specs.Waits.{dwr_line, is_full, since}

-- ---- words of the table

abbrev pub unasked : Judged → Bool
unasked judged.Unasked = true
unasked judged.Passed = false
unasked judged.Invalid = false

abbrev pub is_invalid : Judged → Bool
is_invalid judged.Unasked = false
is_invalid judged.Passed = false
is_invalid judged.Invalid = true

abbrev pub is_gap : Body → Bool
is_gap Cut = false
is_gap (Gap at) = true
is_gap (Known c) = false

abbrev pub is_cut : Body → Bool
is_cut Cut = true
is_cut (Gap at) = false
is_cut (Known c) = false

abbrev pub is_start : Phase → Bool
is_start Start = true
is_start (Asked e) = false
is_start (Open e) = false
is_start (Refused e) = false
is_start Middle = false

abbrev pub is_asked : Phase → Bool
is_asked (Asked e) = true
is_asked Start = false
is_asked (Open e) = false
is_asked (Refused e) = false
is_asked Middle = false

abbrev pub is_refused : Phase → Bool
is_refused (Refused e) = true
is_refused Start = false
is_refused (Asked e) = false
is_refused (Open e) = false
is_refused Middle = false

-- the end asked for the connection
abbrev pub has_asked : Phase → End → Bool
has_asked phase e = option_map_or (same_end e) (asker phase) false

-- the other end did, or, as long as nobody did, it opened the transport connection
abbrev pub may_not_ask : Phase → End → Bool
may_not_ask Start Initiator = false
may_not_ask Start Responder = true
may_not_ask (Asked a) e = not (same_end e a)
may_not_ask (Open a) e = not (same_end e a)
may_not_ask (Refused a) e = not (same_end e a)
may_not_ask Middle e = false

-- a CEA: the first answer of its code from the end that was asked (section 5.3)
abbrev pub is_cea : PlainMoment → Bool
is_cea m = is_asked m.phase && not (has_asked m.phase m.from) && not m.message.head.request && (m.message.head.code == CAPABILITIES_EXCHANGE)

-- a request of a command beyond those between neighbors
abbrev pub is_beyond : PlainMoment → Bool
is_beyond m = m.message.head.request && not (is_base_code m.message.head.code)

-- an answer whose request is known and passes the test
abbrev pub answered_if : PlainMoment → (Request → Bool) → Bool
answered_if m test = option_map_or test m.request false

-- a set of applications is known and passes the test
abbrev pub if_known : Option Apps → (Apps → Bool) → Bool
if_known apps test = option_map_or test apps false

-- the AVPs of the message are known and pass the test
abbrev pub if_contents : PlainMoment → (PlainContents → Bool) → Bool
if_contents m test = option_map_or test (contents_of m.message.body) false

-- the applications of the CER and of the CEA are known and pass the test
abbrev pub if_both : PlainMoment → (Apps → Apps → Bool) → Bool
if_both m test = if_known m.other.apps (λ ours. if_contents m (λ c. test ours c.apps))

-- what they have in common
abbrev pub known_common : PlainMoment → Option (Option Apps)
known_common m = elim m.other.apps [ None ↦ None | Some ours ↦ option_map (λ c. common_apps ours c.apps) (contents_of m.message.body) ]

-- a request beyond those between neighbors of an application that isn't among these (section 5.3)
abbrev pub is_unserved : PlainMoment → Option Apps → Bool
is_unserved m apps = is_agreed m.phase && is_beyond m && not (m.message.head.app == 0) && if_known apps (λ a. not (serves a m.message.head.app))

-- ---- departures

-- 3: E is for answers, T for requests
abbrev pub bits : PlainMoment → Bool
bits m = unasked m.line.judged && (if m.message.head.request then m.message.head.error else m.message.head.retransmitted)

-- 4.1
abbrev pub avp_length : PlainMoment → Bool
avp_length m = unasked m.line.judged && is_gap m.message.body

abbrev pub invalid : PlainMoment → Bool
invalid m = is_invalid m.line.judged

-- 5.6.1: the transport connection is opened for a CER
abbrev pub no_cer : PlainMoment → Bool
no_cer m = is_start m.phase && not (is_cer m.message.head)

-- 5.6: the end that opened the transport connection sends the CER
abbrev pub cer_from_acceptor : PlainMoment → Bool
cer_from_acceptor m = is_cer m.message.head && may_not_ask m.phase m.from

-- 5.6
abbrev pub cer_again : PlainMoment → Bool
cer_again m = is_cer m.message.head && has_asked m.phase m.from && not (is_refused m.phase)

-- 5.6: Send-Message comes with I-Open and R-Open. Once an end
abbrev pub before_cea : PlainMoment → Bool
before_cea m = is_asked m.phase && not (is_cea m) && not (is_cer m.message.head) && not m.own.noted

-- 5.6: there is no Send-Message in Closing
abbrev pub after_dpr : PlainMoment → Bool
after_dpr m = is_beyond m && m.own.dpr

abbrev pub after_dpa : PlainMoment → Bool
after_dpa m = is_beyond m && m.own.dpa

-- 3: unique on the connection at any given time
abbrev pub hop_by_hop : PlainMoment → Bool
hop_by_hop m = m.message.head.request && is_some (since m.own.waits m.message.head.hop)

-- 5.5.3 (RFC 3539 section 3.4.1): the next watchdog comes when the last one is answered
abbrev pub watchdog_waits : PlainMoment → Bool
watchdog_waits m = m.message.head.request && (m.message.head.code == DEVICE_WATCHDOG) && is_some (dwr_line m.own.waits)

-- 5.3: only what the other end advertises
abbrev pub not_advertised : PlainMoment → Bool
not_advertised m = is_unserved m m.other.apps

-- 6.2: an answer has the Hop-by-Hop Identifier of its request
abbrev pub answers_nothing : PlainMoment → Bool
answers_nothing m = not m.message.head.request && not (is_some m.request) && not m.other.gap

-- 6.2
abbrev pub end_to_end : PlainMoment → Bool
end_to_end m = answered_if m (λ r. not (r.e2e == m.message.head.e2e))

-- 3.1
abbrev pub command : PlainMoment → Bool
command m = answered_if m (λ r. not (r.code == m.message.head.code))

-- 3
abbrev pub application : PlainMoment → Bool
application m = answered_if m (λ r. not (r.app == m.message.head.app))

abbrev pub differ : Bool → Bool → Bool
differ true p = not p
differ false p = p

-- 6.2
abbrev pub proxiable : PlainMoment → Bool
proxiable m = answered_if m (λ r. differ r.proxiable m.message.head.proxiable)

-- the Session-Id is none, or another than this
abbrev pub is_other_session : PlainSession → Option (List ℕ) → Bool
is_other_session s None = true
is_other_session s (Some bytes) = not (is_session s bytes)

-- 6.2
abbrev pub session_id : PlainMoment → Bool
session_id m = answered_if m (λ r. option_map_or (λ s. if_contents m (λ c. is_other_session s c.session)) r.session false)

-- 6.2: answers go back along their requests, by no Destination
abbrev pub destination : PlainMoment → Bool
destination m = not m.message.head.request && if_contents m (λ c. c.has_destination)

-- 7.1: a Result-Code, for which 7.6 has an Experimental-Result too; not in the commands between neighbors
abbrev pub has_outcome : ℕ → PlainContents → Bool
has_outcome code c = c.has_result || (c.has_experimental && not (is_base_code code))

-- 7.1 and 7.6: an answer has its outcome
abbrev pub no_result : PlainMoment → Bool
no_result m = not m.message.head.request && if_contents m (λ c. not (has_outcome m.message.head.code c))

-- 5.3: a CEA of success is for a node with which there is an application in common
abbrev pub no_common : PlainMoment → Bool
no_common m = is_cea m && is_success (result_of m.message.body) && if_both m (λ a b. not (shares_number a b) && not (is_relay a) && not (is_relay b))

-- 7.1.5: 5010 says that there is none in common
abbrev pub common_refused : PlainMoment → Bool
common_refused m = is_cea m && option_map_or (λ n. n == NO_COMMON_APPLICATION) (result_of m.message.body) false && if_both m has_common

-- 7.1.3, 7.1.4 and 3: E goes with 3xxx, and neither with 2xxx nor with 4xxx
abbrev pub is_wrong_flag : Bool → ℕ → Bool
is_wrong_flag true n = (n / 1000 == 2) || (n / 1000 == 4)
is_wrong_flag false n = n / 1000 == 3

abbrev pub error_flag : PlainMoment → Bool
error_flag m = not m.message.head.request && option_map_or (is_wrong_flag m.message.head.error) (result_of m.message.body) false

-- 4.3.1: one name for one node
abbrev pub origin_host : PlainMoment → Bool
origin_host m = is_base_code m.message.head.code && option_map_or (λ host. if_contents m (λ c. option_map_or (λ name. not (same_host host name)) c.host false)) m.own.host false

-- ---- notes

abbrev pub truncated : PlainMoment → Bool
truncated m = is_cut m.message.body

abbrev pub trailing : PlainMoment → Bool
trailing m = nat_lt m.message.length (length m.line.bytes.now)

abbrev pub answers_before : PlainMoment → Bool
answers_before m = not m.message.head.request && not (is_some m.request) && m.other.gap

-- its answer came before it: the lines are exchanged
abbrev pub order : PlainMoment → Bool
order m = m.message.head.request && has_stray m.other.strays m.message.head.hop m.message.head.e2e m.message.head.code

abbrev pub again : PlainMoment → Bool
again m = m.message.head.request && m.message.head.retransmitted

-- 5.3 has SHOULD for a CEA
abbrev pub own_application : PlainMoment → Bool
own_application m = is_unserved m m.own.apps

-- by their number alone
abbrev pub kinds : PlainMoment → Bool
kinds m = is_cea m && is_success (result_of m.message.body) && if_both m (λ a b. shares_number a b && not (has_common a b))

-- 5.3 has SHOULD for the end of the connection. Once an end
abbrev pub goes_on : PlainMoment → Bool
goes_on m = is_refused m.phase && m.message.head.request && not (is_cer m.message.head) && not m.own.noted

-- less than the least interval after the last one
abbrev pub is_soon : Option ℕ → Option ℕ → Bool
is_soon None now = false
is_soon (Some last) None = false
is_soon (Some last) (Some now) = nat_le last now && nat_lt (now - last) WATCHDOG_INTERVAL

abbrev pub watchdog_early : PlainMoment → Bool
watchdog_early m = m.message.head.request && (m.message.head.code == DEVICE_WATCHDOG) && option_map_or (λ d. is_soon d.time m.line.time) m.own.dwr false

-- RFC 3539 section 3.4.1: an end that hears nothing for Tw, which is 30 seconds with 2 of jitter, sends a watchdog
abbrev pub is_silence : Option ℕ → Option ℕ → Bool
is_silence None now = false
is_silence (Some last) None = false
is_silence (Some last) (Some now) = nat_le last now && nat_lt SILENCE (now - last)

-- it comes later than that after the line before
abbrev pub silence : PlainMoment → Bool
silence m = is_silence m.last m.line.time

-- 8.16: an Origin-State-Id is advanced when its node restarts, and has lost what it knew
abbrev pub origin_state : PlainMoment → Bool
origin_state m = is_base_code m.message.head.code && option_map_or (λ known. if_contents m (λ c. option_map_or (λ n. not (known == n)) c.origin_state false)) m.own.origin_state false

-- once an end
abbrev pub forgotten : PlainMoment → Bool
forgotten m = m.message.head.request && not (order m) && is_full m.own.waits && not m.own.forgot

-- ---- the table

abbrev pub Row : Type 0
Row = Reason × Bool

-- the reasons whose tests say yes, in order
abbrev pub recorded : List Row → List Reason
recorded rows = map (λ row. row.0) (filter (λ row. row.1) rows)

abbrev pub of_frame : PlainMoment → List Row
of_frame m = (reason.Bits, bits m) ∷ (reason.AvpLength, avp_length m) ∷ (reason.Invalid, invalid m) ∷ []

abbrev pub of_opening : PlainMoment → List Row
of_opening m = (reason.NoCer, no_cer m) ∷ (reason.CerFromAcceptor, cer_from_acceptor m) ∷ (reason.CerAgain, cer_again m) ∷ (reason.BeforeCea, before_cea m) ∷ []

abbrev pub of_requests : PlainMoment → List Row
of_requests m = (reason.AfterDpr, after_dpr m) ∷ (reason.AfterDpa, after_dpa m) ∷ (reason.HopByHop, hop_by_hop m) ∷ (reason.WatchdogWaits, watchdog_waits m) ∷ (reason.NotAdvertised, not_advertised m) ∷ []

abbrev pub of_answers : PlainMoment → List Row
of_answers m = (reason.AnswersNothing, answers_nothing m) ∷ (reason.EndToEnd, end_to_end m) ∷ (reason.Command, command m) ∷ (reason.Application, application m) ∷ (reason.Proxiable, proxiable m) ∷ (reason.SessionId, session_id m) ∷ (reason.Destination, destination m) ∷ (reason.NoResult, no_result m) ∷ []

abbrev pub of_results : PlainMoment → List Row
of_results m = (reason.NoCommon, no_common m) ∷ (reason.CommonRefused, common_refused m) ∷ (reason.ErrorFlag, error_flag m) ∷ (reason.OriginHost, origin_host m) ∷ []

abbrev pub notes_of_frame : PlainMoment → List Row
notes_of_frame m = (reason.Truncated, truncated m) ∷ (reason.Trailing, trailing m) ∷ (reason.AnswersBefore, answers_before m) ∷ (reason.Order, order m) ∷ (reason.Again, again m) ∷ []

abbrev pub notes_of_state : PlainMoment → List Row
notes_of_state m = (reason.OwnApplication, own_application m) ∷ (reason.Kinds, kinds m) ∷ (reason.GoesOn, goes_on m) ∷ (reason.WatchdogEarly, watchdog_early m) ∷ (reason.Silence, silence m) ∷ (reason.OriginState, origin_state m) ∷ (reason.Forgotten, forgotten m) ∷ []

-- what is reported of a message
abbrev pub findings : PlainMoment → List Reason
findings m = recorded (of_frame m) ++ recorded (of_opening m) ++ recorded (of_requests m) ++ recorded (of_answers m) ++ recorded (of_results m) ++ recorded (notes_of_frame m) ++ recorded (notes_of_state m)

-- what is reported of bytes whose header can't be read
abbrev pub is_version : HeadFault → Bool
is_version fault.Version = true
is_version fault.Short = false
is_version fault.Length = false

abbrev pub is_length : HeadFault → Bool
is_length fault.Length = true
is_length fault.Short = false
is_length fault.Version = false

abbrev pub is_short : HeadFault → Bool
is_short fault.Short = true
is_short fault.Version = false
is_short fault.Length = false

abbrev pub unread_findings : Judged → HeadFault → List Reason
unread_findings j f = recorded ((reason.Version, unasked j && is_version f) ∷ (reason.Length, unasked j && is_length f) ∷ (reason.Invalid, is_invalid j) ∷ (reason.Truncated, is_short f) ∷ [])
