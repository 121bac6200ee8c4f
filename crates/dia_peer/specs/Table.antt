-- What a core does at each event: the table of one connection.
use Rattle.std.specs.Prelude.{ℕ, ◌==◌, ◌&&◌, Bool, true, false, if◌then◌else◌, List, [], ◌∷◌, ◌++◌, length, Option, Some, None, nat_eq}
use Rattle.std.specs.Option.{option_map_or}
use Rattle.std.specs.List.{starts_with}
use Rattle.dia_peer.specs.declared.codes.TheConstants.{SUCCESS, NO_COMMON_APPLICATION}
use Rattle.dia_peer.specs.declared.kept_requests.Ids.{Ids}
use Rattle.dia_peer.specs.declared.config.Role.{Role}
use Rattle.dia_peer.specs.declared.config.Role.TheVariants.{Initiator, Responder}
use Rattle.dia_peer.specs.declared.event.State.{State}
use Rattle.dia_peer.specs.declared.event.State.TheVariants.{Idle, WaitCea, WaitCer, Open, WaitDpa, Closed}
use Rattle.dia_peer.specs.declared.event.Cause.{Cause}
use Rattle.dia_peer.specs.declared.event.Why.{Why}
use Rattle.dia_peer.specs.declared.event.Why.TheVariants as why
use Rattle.dia_peer.specs.Core.{PlainCore, PlainTaken, Pair, Sent, common_of}
use Rattle.dia_peer.specs.Messages.{Received, Unreadable, Invalid, Cer, Dwr, Dpr, Cea, Refusal, Dwa, Dpa, cer, cea, dwr, dwa, dpr, dpa, after}

pub data Happening : Type 0 where
  Starts : Happening
  Gets : (what : Received) → Happening
  Ticks : Happening
  Stops : (cause : Cause) → Happening
  Breaks : Happening

pub data Deed : Type 0 where
  Sends : (message : Sent) → Deed
  Closes : (why : Why) → Deed

-- the core afterwards, and what it does
pub record Outcome : Type 0 where
  pub core : PlainCore
  pub deeds : List Deed

abbrev pub nothing : PlainCore → Outcome
nothing c = record { core = c; deeds = [] }

abbrev pub closed : PlainCore → PlainCore
closed c = record c { state = Closed }

-- closes, after these messages
abbrev pub closes : PlainCore → List Deed → Why → Outcome
closes c before reason = record { core = closed c; deeds = before ++ Closes reason ∷ [] }

abbrev pub same_bytes : List ℕ → List ℕ → Bool
same_bytes a b = (length a == length b) && starts_with nat_eq a b

abbrev pub same_ids : Ids → Option Ids → Bool
same_ids ids last = option_map_or (λ l. (l.hop == ids.hop) && (l.e2e == ids.e2e)) last false

-- ---- lines of the table

abbrev pub starts : PlainCore → Role → Outcome
starts c Initiator = record { core = record c { state = WaitCea; next = after c.next; last_cer = Some c.next }; deeds = Sends (cer c.config c.next) ∷ [] }
starts c Responder = record { core = record c { state = WaitCer }; deeds = [] }

-- the answer to the CER opens, where there are common applications, and no more than an end may hold
abbrev pub opens : PlainCore → Option (List Pair) → Outcome
opens c None = closes c [] why.Invalid
opens c (Some []) = closes c [] why.NoCommon
opens c (Some (p ∷ ps)) = record { core = record c { state = Open; common = p ∷ ps }; deeds = [] }

abbrev pub answered : PlainCore → ℕ → List Pair → Outcome
answered c result apps = if result == SUCCESS then opens c (common_of c.manner c.config apps) else (if result == NO_COMMON_APPLICATION then closes c [] why.NoCommon else closes c [] why.Refused)

-- a CER gets a CEA, and opens where there are common applications
abbrev pub accepts : PlainCore → Ids → List ℕ → Option (List Pair) → Outcome
accepts c ids bytes None = closes c [] why.Invalid
accepts c ids bytes (Some []) = closes c (Sends (cea c.config ids NO_COMMON_APPLICATION) ∷ []) why.NoCommon
accepts c ids bytes (Some (p ∷ ps)) = record {
  core = record c { state = Open; common = p ∷ ps; taken = Some (record { bytes = bytes; ids = ids }) };
  deeds = Sends (cea c.config ids SUCCESS) ∷ [];
}

-- the CER that was accepted comes again
abbrev pub repeated : PlainCore → List ℕ → Option PlainTaken → Outcome
repeated c bytes None = nothing c
repeated c bytes (Some taken) = if same_bytes bytes taken.bytes then record { core = c; deeds = Sends (cea c.config taken.ids SUCCESS) ∷ [] } else nothing c

abbrev pub only_responder : Role → Outcome → Outcome → Outcome
only_responder Responder first second = first
only_responder Initiator first second = second

abbrev pub ticks_open : PlainCore → Outcome
ticks_open c = if c.waits then closes c [] why.Watchdog
    else record { core = record c { next = after c.next; last_dwr = Some c.next; waits = true }; deeds = Sends (dwr c.config c.next) ∷ [] }

abbrev pub stops_open : PlainCore → Cause → Outcome
stops_open c cause = record { core = record c { state = WaitDpa; next = after c.next; last_dpr = Some c.next }; deeds = Sends (dpr c.config c.next cause) ∷ [] }

-- ---- the table, by state and event: whatever it does not name is ignored

abbrev pub happens_in : State → PlainCore → Happening → Outcome
happens_in Closed c h = nothing c
happens_in state c Breaks = record { core = closed c; deeds = [] }
happens_in Idle c Starts = starts c c.role
happens_in Idle c (Stops cause) = closes c [] why.Stopped
happens_in Idle c h = nothing c
-- bytes that are no message, or no valid one
happens_in state c (Gets Unreadable) = closes c [] why.Invalid
happens_in state c (Gets Invalid) = closes c [] why.Invalid
happens_in WaitCea c (Gets (Cea ids result apps)) = if same_ids ids c.last_cer then answered c result apps else nothing c
happens_in WaitCea c (Gets (Refusal ids)) = if same_ids ids c.last_cer then closes c [] why.Refused else nothing c
happens_in WaitCea c Ticks = closes c [] why.Timeout
happens_in WaitCea c (Stops cause) = closes c [] why.Stopped
happens_in WaitCer c (Gets (Cer ids bytes apps)) = accepts c ids bytes (common_of c.manner c.config apps)
happens_in WaitCer c Ticks = closes c [] why.Timeout
happens_in WaitCer c (Stops cause) = closes c [] why.Stopped
happens_in Open c (Gets (Cer ids bytes apps)) = only_responder c.role (repeated c bytes c.taken) (nothing c)
happens_in Open c (Gets (Dwr ids)) = record { core = c; deeds = Sends (dwa c.config ids) ∷ [] }
happens_in Open c (Gets (Dwa ids)) = if same_ids ids c.last_dwr then record { core = record c { waits = false }; deeds = [] } else nothing c
happens_in Open c (Gets (Dpr ids)) = closes c (Sends (dpa c.config ids) ∷ []) why.PeerStopped
happens_in Open c Ticks = ticks_open c
happens_in Open c (Stops cause) = stops_open c cause
happens_in WaitDpa c (Gets (Dwr ids)) = record { core = c; deeds = Sends (dwa c.config ids) ∷ [] }
happens_in WaitDpa c (Gets (Dpr ids)) = closes c (Sends (dpa c.config ids) ∷ []) why.PeerStopped
happens_in WaitDpa c (Gets (Dpa ids)) = if same_ids ids c.last_dpr then closes c [] why.Stopped else nothing c
happens_in WaitDpa c Ticks = closes c [] why.Timeout
happens_in state c h = nothing c

abbrev pub happens : PlainCore → Happening → Outcome
happens c h = happens_in c.state c h

-- ---- beside the table

-- its next identifiers are for a request of the caller's
abbrev pub without_next : PlainCore → PlainCore
without_next c = record c { next = after c.next }
