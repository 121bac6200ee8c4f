-- What the timer of a connection does after a step (RFC 3539 section 3.4.1): a message puts the watchdog off, and one that a core
-- ignores never prolongs the wait for an answer.
use Rattle.std.specs.Prelude.{◌≡◌, ℕ, ◌+◌, ◌*◌, ◌%◌, nat_lt, if◌then◌else◌}
use Rattle.dia_peer.specs.declared.event.State.{State}
use Rattle.dia_peer.specs.declared.event.State.TheVariants.{Idle, WaitCea, WaitCer, Open, WaitDpa, Closed}
use Rattle.dia_peer.specs.declared.event.Event.{Event}
use Rattle.dia_peer.specs.declared.event.Event.TheVariants.{Start, Stop, Lost}
use Rattle.dia_peer.specs.declared.timing.TheConstants.{LEAST_QUIET, JITTER}
use Rattle.dia_peer.specs.declared.timing.TimerAction.{TimerAction}
use Rattle.dia_peer.specs.declared.timing.TimerAction.TheVariants.{Off, Quiet, Reply, Keep}

-- by the state before, the event, and the state after it
abbrev pub timer_of : State → Event → State → TimerAction
timer_of before e Idle = Off
timer_of before e Closed = Off
timer_of Open Start Open = Keep
timer_of Open (Stop cause) Open = Keep
timer_of Open Lost Open = Keep
timer_of before e Open = Quiet
timer_of WaitCea e WaitCea = Keep
timer_of WaitCer e WaitCer = Keep
timer_of WaitDpa e WaitDpa = Keep
timer_of before e after = Reply

-- Tw, of which six seconds are the least, and a jitter that is drawn to either side
abbrev pub IsQuietTime : (tw drawn ms : ℕ) → Type 0
IsQuietTime tw drawn ms = ms + JITTER ≡ (if nat_lt tw LEAST_QUIET then LEAST_QUIET else tw) + drawn % (2 * JITTER + 1)
