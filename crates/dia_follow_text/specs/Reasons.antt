-- The words and the sections of departures and notes.
use Rattle.std.specs.Prelude.{ℕ, ◌/◌, ◌==◌, Bool, true, if◌then◌else◌, List, Option, Some, None, codes, is_some}
use Rattle.dia_follow.specs.declared.Reason.{Reason}
use Rattle.dia_follow.specs.declared.Reason.TheVariants as reason

abbrev pub word : Reason → List ℕ
word reason.Version = codes "version"
word reason.Length = codes "length"
word reason.Bits = codes "bits"
word reason.AvpLength = codes "avp-length"
word reason.Invalid = codes "invalid"
word reason.NoCer = codes "no-cer"
word reason.CerFromAcceptor = codes "cer-from-acceptor"
word reason.CerAgain = codes "cer-again"
word reason.BeforeCea = codes "before-cea"
word reason.AfterDpr = codes "behind-dpr"
word reason.AfterDpa = codes "behind-dpa"
word reason.HopByHop = codes "hop-by-hop"
word reason.WatchdogWaits = codes "watchdog-waits"
word reason.NotAdvertised = codes "not-advertised"
word reason.AnswersNothing = codes "answers-nothing"
word reason.EndToEnd = codes "end-to-end"
word reason.Command = codes "command"
word reason.Application = codes "application"
word reason.Proxiable = codes "proxiable"
word reason.SessionId = codes "session-id"
word reason.Destination = codes "destination"
word reason.NoResult = codes "no-result"
word reason.NoCommon = codes "no-common"
word reason.CommonRefused = codes "common-refused"
word reason.ErrorFlag = codes "error-flag"
word reason.OriginHost = codes "origin-host"
word reason.Truncated = codes "truncated"
word reason.Trailing = codes "trailing"
word reason.AnswersBefore = codes "answers-before"
word reason.Order = codes "order"
word reason.Again = codes "again"
word reason.OwnApplication = codes "own-application"
word reason.Kinds = codes "kinds"
word reason.GoesOn = codes "goes-on"
word reason.WatchdogEarly = codes "watchdog-early"
word reason.Silence = codes "silence"
word reason.OriginState = codes "origin-state"
word reason.Forgotten = codes "forgotten"

-- ---- sections of RFC 6733

-- of what an answer repeats of its request
abbrev pub answer_section : Reason → Option (List ℕ)
answer_section reason.AnswersNothing = Some (codes "6.2")
answer_section reason.EndToEnd = Some (codes "6.2")
answer_section reason.Command = Some (codes "3.1")
answer_section reason.Application = Some (codes "3")
answer_section reason.Proxiable = Some (codes "6.2")
answer_section reason.SessionId = Some (codes "6.2")
answer_section reason.Destination = Some (codes "6.2")
answer_section reason.NoResult = Some (codes "7.1")
answer_section r = None

abbrev pub error_flag_section : Option ℕ → List ℕ
error_flag_section None = codes "3"
error_flag_section (Some code) = if code / 1000 == 3 then codes "7.1.3" else (if code / 1000 == 4 then codes "7.1.4" else codes "3")

-- of a departure. That of `error-flag` goes by the Result-Code
abbrev pub section : Reason → Option ℕ → Option (List ℕ)
section reason.Version code = Some (codes "3")
section reason.Length code = Some (codes "3")
section reason.Bits code = Some (codes "3")
section reason.AvpLength code = Some (codes "4.1")
section reason.NoCer code = Some (codes "5.6.1")
section reason.CerFromAcceptor code = Some (codes "5.6")
section reason.CerAgain code = Some (codes "5.6")
section reason.BeforeCea code = Some (codes "5.6")
section reason.AfterDpr code = Some (codes "5.6")
section reason.AfterDpa code = Some (codes "5.6")
section reason.HopByHop code = Some (codes "3")
section reason.WatchdogWaits code = Some (codes "5.5.3")
section reason.NotAdvertised code = Some (codes "5.3")
section reason.NoCommon code = Some (codes "5.3")
section reason.CommonRefused code = Some (codes "7.1.5")
section reason.ErrorFlag code = Some (error_flag_section code)
section reason.OriginHost code = Some (codes "4.3.1")
section r code = answer_section r

-- what `check` finds, and what departs from a section; else it is a note
abbrev pub is_departure : Reason → Bool
is_departure reason.Invalid = true
is_departure r = is_some (section r None)

abbrev pub kind : Reason → List ℕ
kind r = if is_departure r then codes "departure" else codes "note"
