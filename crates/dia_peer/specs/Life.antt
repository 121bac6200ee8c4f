-- A watchdog that waits makes a connection suspect before it closes it (RFC 3539 section 3.4.1, the states OKAY and SUSPECT).
use Rattle.std.specs.Prelude.{◌≡◌, ℕ, Option, ◌&&◌, Bool, true, false, not, if◌then◌else◌, List, [], ◌∷◌, ◌++◌, Contains, ⊤, IsTrue}
use Rattle.std.specs.List.{AllByRecursion}
use Rattle.dia_peer.specs.declared.event.State.{State}
use Rattle.dia_peer.specs.declared.event.State.TheVariants.{Open}
use Rattle.dia_peer.specs.declared.event.Why.TheVariants as why
use Rattle.dia_peer.specs.Core.{PlainCore}
use Rattle.dia_peer.specs.Messages.{Received, WatchdogError}
use Rattle.dia_peer.specs.Table.{Happening, Gets, Ticks, Closes, Outcome, same_ids, happens, without_next}

abbrev pub is_open : State → Bool
is_open Open = true
is_open state = false

-- a message came from the other end, or one of an application that is not handed over
abbrev pub heard : PlainCore → PlainCore
heard c = record c { suspect = false }

-- a message came, and changes nothing else
abbrev pub noticed : PlainCore → PlainCore
noticed c = if c.manner.life then heard c else c

-- an error message answers the DWR, as a DWA of any Result-Code does by the table
abbrev pub ends_wait : PlainCore → Received → Bool
ends_wait c (WatchdogError ids) = is_open c.state && same_ids ids c.last_dwr
ends_wait c what = false

-- ---- lines of this manner, over those of the table

abbrev pub suspects : PlainCore → Outcome → Outcome
suspects c o = if is_open c.state && c.waits && not c.suspect then record { core = record c { suspect = true }; deeds = [] } else o

abbrev pub hears : PlainCore → Received → Outcome → Outcome
hears c what o = record { core = record o.core { waits = if ends_wait c what then false else o.core.waits; suspect = false }; deeds = o.deeds }

-- the table, by the core's manner
abbrev pub lives : PlainCore → Happening → Outcome
lives c Ticks = if c.manner.life then suspects c (happens c Ticks) else happens c Ticks
lives c (Gets what) = if c.manner.life then hears c what (happens c (Gets what)) else happens c (Gets what)
lives c h = happens c h

-- the connection is suspect: new requests are better sent elsewhere
abbrev pub IsSuspect : PlainCore → Type 0
IsSuspect c = (c.state ≡ Open) × IsTrue c.suspect

-- ---- what a core goes through

pub data Act : Type 0 where
  Does : (h : Happening) → Act
  Hears : Act
  TakesIds : Act
  -- what it keeps of the other end changes
  Keeps : (met left : Option (List ℕ)) → Act

abbrev pub acts : PlainCore → Act → PlainCore
acts c (Does h) = (lives c h).core
acts c Hears = heard c
acts c TakesIds = without_next c
acts c (Keeps met left) = record c { met = met; left = left }

abbrev pub after_all : PlainCore → List Act → PlainCore
after_all c [] = c
after_all c (a ∷ more) = after_all (acts c a) more

-- nothing is heard of the other end
abbrev pub IsSilent : Act → Type 0
IsSilent (Does (Gets what)) = ⊥
IsSilent Hears = ⊥
IsSilent a = ⊤

-- open, and a watchdog waits
abbrev pub AwaitsDwa : PlainCore → Type 0
AwaitsDwa c = (c.state ≡ Open) × IsTrue c.waits

-- after these: a `Tick` came while a watchdog waited, and nothing was heard since
abbrev pub SilentSinceTick : PlainCore → List Act → Type 0
SilentSinceTick c all = (before : List Act) × (since : List Act) × (all ≡ before ++ Does Ticks ∷ since) × AwaitsDwa (after_all c before) × AllByRecursion IsSilent since

-- a watchdog closes only at a `Tick` after such a `Tick`, while it waits
abbrev pub ClosesInSilence : PlainCore → List Act → Happening → Type 0
ClosesInSilence c all h = Contains (lives (after_all c all) h).deeds (Closes why.Watchdog) → (h ≡ Ticks) × AwaitsDwa (after_all c all) × SilentSinceTick c all
