-- The events and outputs of one end of a connection, by the numbers of dia.h.
use Rattle.std.specs.Prelude.{◌≡◌, ℕ, ◌<◌, List, [], ◌∷◌, length, map, drop, All}
use Rattle.dia_peer.specs.declared.event.State.{State}
use Rattle.dia_peer.specs.declared.event.State.TheVariants as state
use Rattle.dia_peer.specs.declared.event.Cause.{Cause}
use Rattle.dia_peer.specs.declared.event.Cause.TheVariants as cause
use Rattle.dia_peer.specs.declared.event.Why.{Why}
use Rattle.dia_peer.specs.declared.event.Why.TheVariants as why
use Rattle.dia_peer.specs.declared.event.Event.{Event}
use Rattle.dia_peer.specs.declared.event.Event.TheVariants as event
use Rattle.dia_peer.specs.declared.event.Output.{Output}
use Rattle.dia_peer.specs.Core.{PlainCore}
use Rattle.dia_peer.specs.Machine.{IsStep, AreSound}
use Rattle.dia_peer.specs.Outputs.{PlainOutput, SentBytes, ClosedFor, plain_output}
use Rattle.dia_c_calls.specs.declared.peer.Peer.{Peer}
use Rattle.dia_c_calls.specs.declared.peer.Given.{Given}
use Rattle.dia_c_calls.specs.declared.peer.Given.TheVariants as given

-- an end, and what it wants done that was not taken yet
pub record PlainEnd : Type 0 where
  pub core : PlainCore
  pub left : List PlainOutput

abbrev pub plain_end : Peer → PlainEnd
plain_end p = record { core = p.core; left = map plain_output (drop p.taken p.outputs.items) }

abbrev pub state_number : State → ℕ
state_number state.Idle = 0
state_number state.WaitCea = 1
state_number state.WaitCer = 2
state_number state.Open = 3
state_number state.WaitDpa = 4
state_number state.Closed = 5

abbrev pub why_number : Why → ℕ
why_number why.Invalid = 0
why_number why.NoCommon = 1
why_number why.Refused = 2
why_number why.Watchdog = 3
why_number why.Timeout = 4
why_number why.PeerStopped = 5
why_number why.Stopped = 6

-- the values of Disconnect-Cause (RFC 6733 section 5.4.3)
abbrev pub cause_number : Cause → ℕ
cause_number cause.Rebooting = 0
cause_number cause.Busy = 1
cause_number cause.DoNotWant = 2

-- the event of this number. Only that of a message reads the bytes, and only that of a stop the cause
abbrev pub IsEventOf : ℕ → List ℕ → ℕ → Event → Type 0
IsEventOf n bytes cause event.Start = n ≡ 0
IsEventOf n bytes cause (event.Bytes message) = (n ≡ 1) × (message.now ≡ bytes)
IsEventOf n bytes cause event.Tick = n ≡ 2
IsEventOf n bytes cause (event.Stop c) = (n ≡ 3) × (cause ≡ cause_number c)
IsEventOf n bytes cause event.Lost = n ≡ 4

-- the numbers are those of an event
abbrev pub IsEventNumber : ℕ → ℕ → Type 0
IsEventNumber n cause = (n < 5) × (n ≡ 3 → cause < 3)

-- the core did one step, and its outputs, whose messages are valid as those of `Core::step` are, are to be taken
abbrev pub HasStepped : PlainCore → Event → PlainEnd → Type 0
HasStepped core e new = (outputs : List Output) × IsStep core e outputs new.core × AreSound core.manner outputs × (new.left ≡ map plain_output outputs)

-- nothing was left to be taken, and the event of these numbers happened
abbrev pub HasHappened : ℕ → List ℕ → ℕ → PlainEnd → PlainEnd → Type 0
HasHappened n bytes cause old new = (old.left ≡ []) × (e : Event) × IsEventOf n bytes cause e × HasStepped old.core e new

-- an output in numbers, and its bytes
abbrev pub IsRecordedOutput : PlainOutput → ℕ → List ℕ → ℕ → Type 0
IsRecordedOutput (SentBytes message) output bytes reason = (output ≡ 0) × (bytes ≡ message) × (reason ≡ 0)
IsRecordedOutput (ClosedFor why) output bytes reason = (output ≡ 1) × (bytes ≡ []) × (reason ≡ why_number why)

-- the next output was taken, and nothing else has changed
abbrev pub IsTaken : PlainEnd → PlainEnd → PlainOutput → Type 0
IsTaken old new output = old ≡ record { core = new.core; left = output ∷ new.left }

-- the next output is a message of so many bytes
pub data WantsRoom (count : ℕ) (peer : PlainEnd) : Type 0 where
  message : (bytes : List ℕ) (rest : List PlainOutput) → peer.left ≡ SentBytes bytes ∷ rest → count ≡ length bytes → WantsRoom count peer

-- of the room for a message only its bytes change; without a message nothing does
abbrev pub LeavesRest : Given → (old new : List ℕ) → Type 0
LeavesRest (given.Sent count) old new = drop count new ≡ drop count old
LeavesRest (given.Closed why) old new = new ≡ old
LeavesRest (given.NoRoom count) old new = new ≡ old
LeavesRest given.Nothing old new = new ≡ old
