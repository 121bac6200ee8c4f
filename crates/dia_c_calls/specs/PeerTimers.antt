-- Timers and identifiers of one end of a connection, by the numbers of dia.h.
use Rattle.std.specs.Prelude.{◌≡◌, ℕ, ◌<◌}
use Rattle.dia_peer.specs.declared.event.State.{State}
use Rattle.dia_peer.specs.declared.event.Event.{Event}
use Rattle.dia_peer.specs.declared.event.Event.TheVariants as event
use Rattle.dia_peer.specs.declared.timing.TimerAction.{TimerAction}
use Rattle.dia_peer.specs.declared.timing.TimerAction.TheVariants as timer
use Rattle.dia_peer.specs.Table.{without_next}
use Rattle.dia_peer.specs.Timers.{timer_of}
use Rattle.dia_c_calls.specs.PeerSteps.{PlainEnd, state_number}

abbrev pub event_number : Event → ℕ
event_number event.Start = 0
event_number (event.Bytes bytes) = 1
event_number event.Tick = 2
event_number (event.Stop cause) = 3
event_number event.Lost = 4

abbrev pub timer_number : TimerAction → ℕ
timer_number timer.Off = 0
timer_number timer.Quiet = 1
timer_number timer.Reply = 2
timer_number timer.Keep = 3

-- what the timer does after a step, in numbers
abbrev pub IsTimerOf : (before happened after timer : ℕ) → Type 0
IsTimerOf before happened after n =
    (s : State) × (e : Event) × (t : State) × (before ≡ state_number s) × (happened ≡ event_number e) × (after ≡ state_number t) × (n ≡ timer_number (timer_of s e t))

-- the numbers of two states and of an event between them
abbrev pub AreStepNumbers : (before happened after : ℕ) → Type 0
AreStepNumbers before happened after = (before < 6) × (happened < 5) × (after < 6)

-- the next identifiers of the end were taken, and nothing else has changed
abbrev pub TakesIds : (hop e2e : ℕ) → PlainEnd → PlainEnd → Type 0
TakesIds hop e2e old new = (hop ≡ old.core.next.hop) × (e2e ≡ old.core.next.e2e) × (new ≡ record { core = without_next old.core; left = old.left })
