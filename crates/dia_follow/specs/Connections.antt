-- What is known of a connection, and what a message does to it.
use Rattle.std.specs.Prelude.{ℕ, ◌==◌, ◌&&◌, Bool, true, false, not, if◌then◌else◌, List, [], ◌∷◌, ◌++◌, drop, Option, Some, None, option_map, is_some}
use Rattle.std.specs.Option.{option_or}
use Rattle.dia_follow.specs.declared.codes.TheConstants.{CAPABILITIES_EXCHANGE, CAPABILITIES_UPDATE, DEVICE_WATCHDOG, DISCONNECT_PEER}
use Rattle.dia_follow.specs.declared.end.End.{End}
use Rattle.dia_follow.specs.declared.end.End.TheVariants.{Initiator, Responder}
use Rattle.dia_follow.specs.declared.phase.Phase.{Phase}
use Rattle.dia_follow.specs.declared.phase.Phase.TheVariants.{Start, Asked, Open, Refused, Middle}
use Rattle.dia_follow.specs.declared.side.Side.{Side}
use Rattle.dia_follow.specs.declared.kept.Stray.{Stray}
use Rattle.dia_follow.specs.declared.message.Head.{Head}
use Rattle.dia_follow.specs.declared.message.Body.{Body}
use Rattle.dia_follow.specs.declared.message.Line.{Line}
use Rattle.dia_follow.specs.declared.message.Message.{Message as AnyMessage}
use Rattle.dia_follow.specs.declared.message.Seen.{Seen}
use Rattle.dia_follow.specs.declared.message.Seen.TheVariants.{Unread, Message}
use Rattle.dia_follow.specs.declared.reason.Reason.{Reason}
use Rattle.dia_follow.specs.declared.request.Request.{Request}
use Rattle.dia_follow.specs.Applications.{Apps, union}
use Rattle.dia_follow.specs.Departures.{findings, unread_findings}
use Rattle.dia_follow.specs.Ends.{other, same_end}
use Rattle.dia_follow.specs.Kept.{has_stray, with_stray, without_stray}
use Rattle.dia_follow.specs.Messages.{contents_of, is_base_code, is_cer, is_success, result_of}
use Rattle.dia_follow.specs.Moments.{PlainMoment}
use Rattle.dia_follow.specs.Places.{at_place, without_place}
use Rattle.dia_follow.specs.Requests.{PlainSession, session_of}
use Rattle.dia_follow.specs.Sides.{new_side, cut_off, emptied}
use Rattle.dia_follow.specs.Waits.{answered_place, is_dpr, is_full}

-- how far it came, both ends, and the time of the last line, where that is known
pub record PlainConnection : Type 0 where
  pub phase : Phase
  pub initiator : Side
  pub responder : Side
  pub last : Option ℕ

-- nothing is known
abbrev pub new_connection : PlainConnection
new_connection = record { phase = Start; initiator = new_side; responder = new_side; last = None }

abbrev pub own : PlainConnection → End → Side
own c Initiator = c.initiator
own c Responder = c.responder

abbrev pub with_own : PlainConnection → End → Side → PlainConnection
with_own c Initiator s = record c { initiator = s }
with_own c Responder s = record c { responder = s }

-- messages may be missing: the requests, the hosts and the Origin-State-Ids stay
abbrev pub the_middle : PlainConnection → PlainConnection
the_middle c = record c { phase = Middle; initiator = cut_off c.initiator; responder = cut_off c.responder }

-- a message can't be read: the hosts and the Origin-State-Ids stay
abbrev pub emptied_all : PlainConnection → PlainConnection
emptied_all c = record c { phase = Middle; initiator = emptied c.initiator; responder = emptied c.responder }

-- ---- what is there as a message comes

-- the place of the request that a message answers, among those of the other end
abbrev pub answered : List Request → Head → Option ℕ
answered waits h = if h.request then None else answered_place waits h.hop h.e2e

abbrev pub moment : PlainConnection → End → Line → AnyMessage → PlainMoment
moment c from line m = record {
  phase = c.phase;
  from = from;
  own = own c from;
  other = own c (other from);
  last = c.last;
  line = line;
  message = m;
  request = at_place (own c (other from)).waits (answered (own c (other from)).waits m.head);
}

abbrev pub findings_by : PlainConnection → End → Line → Seen → List Reason
findings_by c from line (Unread f) = unread_findings line.judged f
findings_by c from line (Message m) = findings (moment c from line m)

-- what is reported of a message of an end
abbrev pub findings_of : PlainConnection → End → Line → List Reason
findings_of c from line = findings_by c from line line.seen

-- ---- the phase (RFC 6733 sections 5.3 and 5.6)

abbrev pub apps_of : Body → Option Apps
apps_of b = option_map (λ contents. contents.apps) (contents_of b)

abbrev pub noted : Side → Side
noted s = record s { noted = true }

abbrev pub noted_end : PlainConnection → End → PlainConnection
noted_end c e = with_own c e (noted (own c e))

-- an end advertises these
abbrev pub with_apps : PlainConnection → End → Option Apps → PlainConnection
with_apps c e apps = with_own c e (record (own c e) { apps = apps })

abbrev pub unnoted : Side → Side
unnoted s = record s { noted = false }

-- a CER is sent
abbrev pub asks : PlainConnection → End → AnyMessage → PlainConnection
asks c from m = with_apps (record c { phase = Asked from }) from (apps_of m.body)

abbrev pub phase_after : Bool → End → Phase
phase_after true a = Open a
phase_after false a = Refused a

-- the first answer of its code from the end that was asked
abbrev pub answers_cer : End → End → Head → Bool
answers_cer asker from h = not (same_end from asker) && not h.request && (h.code == CAPABILITIES_EXCHANGE)

-- a CEA is sent: without a Result-Code it isn't known whether the connection is open
abbrev pub answered_cer : PlainConnection → End → End → AnyMessage → Option ℕ → PlainConnection
answered_cer c asker from m None = the_middle c
answered_cer c asker from m (Some code) = with_apps (record c { phase = phase_after (is_success (Some code)) asker; initiator = unnoted c.initiator; responder = unnoted c.responder }) from (apps_of m.body)

-- a message after a CEA that refuses
abbrev pub goes_on : PlainConnection → End → Head → PlainConnection
goes_on c from h = if h.request && not (is_cer h) then noted_end c from else c

abbrev pub opens_in : Phase → PlainConnection → End → AnyMessage → PlainConnection
opens_in Start c from m = if is_cer m.head then asks c from m else the_middle c
opens_in (Asked a) c from m = if answers_cer a from m.head then answered_cer c a from m (result_of m.body) else (if is_cer m.head then c else noted_end c from)
opens_in (Refused a) c from m = goes_on c from m.head
opens_in (Open a) c from m = c
opens_in Middle c from m = c

abbrev pub opens : PlainConnection → End → AnyMessage → PlainConnection
opens c from m = opens_in c.phase c from m

-- ---- requests and answers (RFC 6733 section 6.2), of an end that is `own`

pub record Sides : Type 0 where
  pub mine : Side
  pub theirs : Side

abbrev pub session_in : Body → Option PlainSession
session_in b = elim (contents_of b) [ None ↦ None | Some contents ↦ option_map session_of contents.session ]

-- what is remembered of a request
abbrev pub request_of : ℕ → Option ℕ → AnyMessage → Request
request_of number time m = record {
  line = number;
  time = time;
  hop = m.head.hop;
  e2e = m.head.e2e;
  code = m.head.code;
  app = m.head.app;
  proxiable = m.head.proxiable;
  session = session_in m.body;
}

-- a request waits. Of more than are remembered the oldest is forgotten
abbrev pub waits_more : Side → Request → Side
waits_more s r = if is_full s.waits then record s { waits = drop 1 s.waits ++ r ∷ []; gap = true; forgot = true } else record s { waits = s.waits ++ r ∷ [] }

-- a Capabilities-Update-Request adds applications (RFC 6737)
abbrev pub updated : Option Apps → Option Apps → Option Apps
updated None more = None
updated (Some apps) None = None
updated (Some apps) (Some more) = Some (union apps more)

abbrev pub requested : Side → ℕ → Option ℕ → AnyMessage → Side
requested s number time m =
    if m.head.code == CAPABILITIES_UPDATE then record s { apps = updated s.apps (apps_of m.body) }
    else (if m.head.code == DISCONNECT_PEER then record s { dpr = true }
    else (if m.head.code == DEVICE_WATCHDOG then record s { dwr = Some (record { line = number; time = time }) } else s))

-- a request: it doesn't wait if its answer came before it
abbrev pub after_request : Side → Side → ℕ → Option ℕ → AnyMessage → Sides
after_request mine theirs number time m =
    if has_stray theirs.strays m.head.hop m.head.e2e m.head.code
    then record { mine = requested mine number time m; theirs = record theirs { strays = without_stray theirs.strays m.head.hop m.head.e2e m.head.code } }
    else record { mine = requested (waits_more mine (request_of number time m)) number time m; theirs = theirs }

-- a DPA to a DPR (RFC 6733 section 5.4)
abbrev pub after_dpa : Bool → Bool → Sides → Sides
after_dpa true true s = record s { mine = record s.mine { dpa = true } }
after_dpa true false s = record s { theirs = record s.theirs { dpr = false } }
after_dpa false success s = s

abbrev pub stray_of : ℕ → Head → Stray
stray_of number h = record { line = number; hop = h.hop; e2e = h.e2e; code = h.code }

-- an answer without request is remembered, unless requests may be missing
abbrev pub strayed : Bool → Side → Stray → Side
strayed true mine stray = record mine { strays = with_stray mine.strays stray }
strayed false mine stray = mine

-- an answer: its request waits no more
abbrev pub after_answer : Side → Side → ℕ → AnyMessage → Sides
after_answer mine theirs number m =
    let place = answered_place theirs.waits m.head.hop m.head.e2e in
    after_dpa ((m.head.code == DISCONNECT_PEER) && is_dpr (at_place theirs.waits place)) (is_success (result_of m.body))
    (record { mine = strayed (not (is_some place) && not theirs.gap) mine (stray_of number m.head); theirs = record theirs { waits = without_place theirs.waits place } })

-- the first Origin-Host of a command between neighbors (RFC 6733 section 4.3.1)
abbrev pub host_in : Body → Option (List ℕ)
host_in b = elim (contents_of b) [ None ↦ None | Some contents ↦ contents.host ]

abbrev pub hosted : Side → Body → Side
hosted s b = record s { host = option_or s.host (host_in b) }

-- the last Origin-State-Id of a command between neighbors (RFC 6733 section 8.16)
abbrev pub state_in : Body → Option ℕ
state_in b = elim (contents_of b) [ None ↦ None | Some contents ↦ contents.origin_state ]

abbrev pub stated : Side → Body → Side
stated s b = record s { origin_state = option_or (state_in b) s.origin_state }

abbrev pub named : Side → AnyMessage → Side
named s m = if is_base_code m.head.code then hosted (stated s m.body) m.body else s

abbrev pub exchanged : Side → Side → ℕ → Option ℕ → AnyMessage → Sides
exchanged mine theirs number time m = if m.head.request then after_request mine theirs number time m else after_answer mine theirs number m

abbrev pub passed : Side → Side → ℕ → Option ℕ → AnyMessage → Sides
passed mine theirs number time m = let s = exchanged mine theirs number time m in record s { mine = named s.mine m }

abbrev pub with_sides : PlainConnection → End → Sides → PlainConnection
with_sides c Initiator s = record c { initiator = s.mine; responder = s.theirs }
with_sides c Responder s = record c { initiator = s.theirs; responder = s.mine }

-- ---- a message

abbrev pub passed_from : PlainConnection → End → ℕ → Option ℕ → AnyMessage → PlainConnection
passed_from c from number time m = with_sides c from (passed (own c from) (own c (other from)) number time m)

abbrev pub taken : PlainConnection → End → ℕ → Option ℕ → AnyMessage → PlainConnection
taken c from number time m = passed_from (opens c from m) from number time m

abbrev pub after_by : PlainConnection → End → Line → Seen → PlainConnection
after_by c from line (Unread f) = emptied_all c
after_by c from line (Message m) = taken c from line.number line.time m

-- what is known after a message of an end
abbrev pub after : PlainConnection → End → Line → PlainConnection
after c from line = record (after_by c from line line.seen) { last = line.time }
