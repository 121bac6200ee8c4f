-- How a core of the manner `answers` answers a request that is no valid message, before it closes (RFC 6733 sections 7.1.5 and 7.2).
use Rattle.std.specs.Prelude.{◌≡◌, ℕ, ◌==◌, ◌&&◌, Bool, true, false, nat_le, List, length, take, drop, Option, Some, None, Result, Ok, Err, MatchBool}
use Rattle.dia_wire.specs.Lengths.{header_length}
use Rattle.dia_wire.specs.Number.{number}
use Rattle.dia_dict.specs.Base.{base}
use Rattle.dia_check.specs.declared.Unknown.TheVariants.{Kept}
use Rattle.dia_check.specs.declared.Levels.TheVariants.{Any}
use Rattle.dia_answer.specs.declared.forms.Made.{Made}
use Rattle.dia_answer.specs.declared.forms.NoAnswer.{NoAnswer}
use Rattle.dia_answer.specs.Reports.{IsAnswered}
use Rattle.dia_peer.specs.declared.codes.TheConstants.{CAPABILITIES_EXCHANGE}
use Rattle.dia_peer.specs.declared.event.State.{State}
use Rattle.dia_peer.specs.declared.event.State.TheVariants.{WaitCer, Open, WaitDpa}
use Rattle.dia_peer.specs.Core.{PlainConfig, PlainCore}
use Rattle.dia_peer.specs.Messages.{Received, Unreadable, Invalid}

-- what a node of this configuration answers of bytes, as `answer` of dia_answer does by its host and realm: under the base dictionary, with the policy `kept` and any levels
abbrev pub IsAnsweredBy : PlainConfig → List ℕ → Result Made NoAnswer → Type 0
IsAnsweredBy c bytes found = IsAnswered base Kept Any c.host c.realm bytes found

-- the bytes are the answer that is due to the request
abbrev pub IsReply : PlainConfig → List ℕ → List ℕ → Type 0
IsReply c request reply = (made : Made) × IsAnsweredBy c request (Ok made) × (reply ≡ made.bytes.items)

-- none is due
abbrev pub HasNoReply : PlainConfig → List ℕ → Type 0
HasNoReply c bytes = (why : NoAnswer) × IsAnsweredBy c bytes (Err why)

-- the answer to these bytes, or none
abbrev pub IsReplyOf : PlainConfig → List ℕ → Option (List ℕ) → Type 0
IsReplyOf c bytes (Some reply) = IsReply c bytes reply
IsReplyOf c bytes None = HasNoReply c bytes

-- ---- where it goes out

-- no message, or no valid one
abbrev pub is_refused : Received → Bool
is_refused Unreadable = true
is_refused Invalid = true
is_refused what = false

-- a header of this command code, whatever its version and Message Length are
abbrev pub has_command : ℕ → List ℕ → Bool
has_command code bytes = nat_le header_length (length bytes) && (number (take 3 (drop 5 bytes)) == code)

-- where the other end may be answered: its CER, and on an open connection (before the CEA only that may be sent: section 5.6)
abbrev pub may_reply : State → List ℕ → Bool
may_reply WaitCer bytes = has_command CAPABILITIES_EXCHANGE bytes
may_reply Open bytes = true
may_reply WaitDpa bytes = true
may_reply state bytes = false

abbrev pub replies : PlainCore → List ℕ → Received → Bool
replies c bytes what = is_refused what && c.manner.answers && may_reply c.state bytes

-- what goes out before all else at these bytes
abbrev pub IsReplied : PlainCore → List ℕ → Received → Option (List ℕ) → Type 0
IsReplied c bytes what reply = MatchBool (replies c bytes what) (IsReplyOf c.config bytes reply) (reply ≡ None)
