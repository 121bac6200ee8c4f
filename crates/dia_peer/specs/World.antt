-- Two ends that send messages to each other. What is delivered was sent: at any time, any number of times, or never.
use Rattle.std.specs.Prelude.{◌≡◌, ℕ, ◌<◌, ◌⊎◌, ◌↔◌, Bool, List, [], ◌∷◌, ◌++◌, length, map, Option, Some, None, Contains, slice_get, true, false}
use Rattle.std.specs.List.{AllByRecursion}
use Rattle.dia_wire.specs.Wire.{MessageWithZeros}
use Rattle.dia_peer.specs.declared.config.Role.{Role}
use Rattle.dia_peer.specs.declared.config.Role.TheVariants.{Initiator, Responder}
use Rattle.dia_peer.specs.declared.event.State.{State}
use Rattle.dia_peer.specs.declared.event.State.TheVariants.{Idle, Open, WaitDpa, Closed}
use Rattle.dia_peer.specs.declared.event.Cause.{Cause}
use Rattle.dia_peer.specs.declared.codes.TheConstants.{RELAY}
use Rattle.dia_peer.specs.declared.config.Kind.TheVariants.{Auth}
use Rattle.dia_peer.specs.declared.config.Manner.{Manner}
use Rattle.dia_peer.specs.Core.{PlainConfig, PlainCore, PlainTaken, Pair, pair, pair_of, relays}
use Rattle.dia_peer.specs.Messages.{Received, IsReceived}
use Rattle.dia_peer.specs.Table.{Happening, Starts, Gets, Ticks, Stops, Breaks, Deed, Sends, Closes, without_next}
use Rattle.dia_peer.specs.Life.{lives, heard, noticed}
use Rattle.dia_peer.specs.Values.{keeps, AreValuesOf}
use Rattle.dia_peer.specs.Replies.{IsReplied, is_refused}

-- the core of a configuration before its first event
abbrev pub idle : PlainConfig → Role → Manner → PlainCore
idle config role manner = record {
  config = config;
  role = role;
  manner = manner;
  state = Idle;
  common = [];
  next = record { hop = config.hop; e2e = config.e2e };
  last_cer = None;
  last_dwr = None;
  last_dpr =
      None;
  waits = false;
  suspect = false;
  taken = None;
  met = None;
  left = None;
}

-- an end, and the bytes of each message that it has sent
pub record End : Type 0 where
  pub core : PlainCore
  pub sent : List (List ℕ)

pub record World : Type 0 where
  pub initiator : End
  pub responder : End

-- an event at one end. A delivery is of the k-th message that the other end ever sent; what is no valid message may come from anywhere
pub data Event : Type 0 where
  Start : Event
  Tick : Event
  Stop : (cause : Cause) → Event
  Lose : Event
  TakeIds : Event
  Hear : Event
  Deliver : (k : ℕ) → Event
  Spoil : (bytes : List ℕ) → Event

-- each is a byte
abbrev pub AreBytes : List ℕ → Type 0
AreBytes bytes = AllByRecursion (λ byte. byte < 256) bytes

-- these are the bytes of the messages that are sent
abbrev pub AreSpelled : List Deed → List (List ℕ) → Type 0
AreSpelled [] messages = messages ≡ []
AreSpelled (Closes why ∷ deeds) messages = AreSpelled deeds messages
AreSpelled (Sends m ∷ deeds) messages = (bytes : List ℕ) × (rest : List (List ℕ)) × (messages ≡ bytes ∷ rest) × AreBytes bytes × MessageWithZeros m.header m.avps bytes × AreSpelled deeds rest

-- the same, after the answer to a request, if there is one
abbrev pub AreSpelledAfter : Option (List ℕ) → List Deed → List (List ℕ) → Type 0
AreSpelledAfter None deeds messages = AreSpelled deeds messages
AreSpelledAfter (Some reply) deeds messages = (rest : List (List ℕ)) × (messages ≡ reply ∷ rest) × AreBytes reply × AreSpelled deeds rest

-- what happens at an end, and what it then has sent
abbrev pub Goes : End → Happening → End → Type 0
Goes old h new = (messages : List (List ℕ)) × AreSpelled (lives old.core h).deeds messages × (new ≡ record { core = (lives old.core h).core; sent = old.sent ++ messages })

-- bytes come to an end: what it keeps of the other, and what it then has sent, after the answer to them
abbrev pub Takes : End → List ℕ → Received → End → Type 0
Takes old bytes what new = (reply : Option (List ℕ)) × IsReplied old.core bytes what reply × ((messages : List (List ℕ)) × AreSpelledAfter reply (lives old.core (Gets what)).deeds messages
    × (new ≡ record { core = keeps old.core bytes what (lives old.core (Gets what)).core; sent = old.sent ++ messages }))

abbrev pub HappensAt : End → End → Event → End → Type 0
HappensAt old other Start new = Goes old Starts new
HappensAt old other Tick new = Goes old Ticks new
HappensAt old other (Stop cause) new = Goes old (Stops cause) new
HappensAt old other Lose new = Goes old Breaks new
HappensAt old other TakeIds new = new ≡ record { core = without_next old.core; sent = old.sent }
HappensAt old other Hear new = new ≡ record { core = heard old.core; sent = old.sent }
HappensAt old other (Deliver k) new = (bytes : List ℕ) × (what : Received) × (slice_get other.sent k ≡ Some bytes) × IsReceived bytes what × Takes old bytes what new
HappensAt old other (Spoil bytes) new = (what : Received) × IsReceived bytes what × (is_refused what ≡ true) × Takes old bytes what new

abbrev pub Happens : World → Role → Event → World → Type 0
Happens w Initiator e v = HappensAt w.initiator w.responder e v.initiator × (v.responder ≡ w.responder)
Happens w Responder e v = HappensAt w.responder w.initiator e v.responder × (v.initiator ≡ w.initiator)

-- a whole schedule
abbrev pub Run : World → List (Role × Event) → World → Type 0
Run w [] v = v ≡ w
Run w (e ∷ es) v = (mid : World) × Happens w e.0 e.1 mid × Run mid es v

-- two ends, each of its configuration and manner
abbrev pub start : PlainConfig → Manner → PlainConfig → Manner → World
start a m b n = record { initiator = record { core = idle a Initiator m; sent = [] }; responder = record { core = idle b Responder n; sent = [] } }

-- an application that two lists have in common, by whether each is a relay's: a relay has all that the other has
abbrev pub IsCommon : Bool → Bool → List Pair → List Pair → Pair → Type 0
IsCommon true true xs ys p = p ≡ pair Auth RELAY
IsCommon true false xs ys p = Contains ys p
IsCommon false true xs ys p = Contains xs p
IsCommon false false xs ys p = Contains xs p × Contains ys p

-- the applications that two configurations have in common, as an end of this manner reads them
abbrev pub AreShared : Manner → PlainConfig → PlainConfig → List Pair → Type 0
AreShared manner a b pairs = (p : Pair) → Contains pairs p ↔ IsCommon (relays manner (map pair_of a.apps)) (relays manner (map pair_of b.apps)) (map pair_of a.apps) (map pair_of b.apps) p

abbrev pub IsPastOpen : State → Type 0
IsPastOpen state = (state ≡ Open) ⊎ (state ≡ WaitDpa) ⊎ (state ≡ Closed)

-- an open end holds exactly the shared applications, and there is one
abbrev pub HoldsShared : Manner → PlainConfig → PlainConfig → PlainCore → Type 0
HoldsShared manner a b core = core.state ≡ Open → AreShared manner a b core.common × (0 < length core.common)

-- two open ends of one manner hold the same
abbrev pub HoldSame : Manner → Manner → World → Type 0
HoldSame m n w = w.initiator.core.state ≡ Open → w.responder.core.state ≡ Open → m ≡ n → (p : Pair) → Contains w.initiator.core.common p ↔ Contains w.responder.core.common p

-- the CER that opened the responder gets, when it comes again, the CEA that was sent, byte for byte, and changes nothing in the core, but that with `life` it isn't suspect
pub record RepeatsAnswer (responder : End) : Type 0 where
  pub taken : PlainTaken
  pub is_taken : responder.core.taken ≡ Some taken
  pub answer : List ℕ
  pub sent : Contains responder.sent answer
  pub again : (what : Received) (new : End) → IsReceived taken.bytes what → Takes responder taken.bytes what new → new ≡ record { core = noticed responder.core; sent = responder.sent ++ answer ∷ [] }

pub record Agrees (a : PlainConfig) (m : Manner) (b : PlainConfig) (n : Manner) (w : World) : Type 0 where
  pub initiator : HoldsShared m a b w.initiator.core
  pub responder : HoldsShared n a b w.responder.core
  pub same : HoldSame m n w
  pub follows : w.initiator.core.state ≡ Open → IsPastOpen w.responder.core.state
  pub repeats : w.responder.core.state ≡ Open → RepeatsAnswer w.responder

-- an open end of the manner `values` keeps those of the other's configuration
abbrev pub KnowEachOther : PlainConfig → Manner → PlainConfig → Manner → World → Type 0
KnowEachOther a m b n w = (w.initiator.core.state ≡ Open → m.values ≡ true → AreValuesOf b w.initiator.core) × (w.responder.core.state ≡ Open → n.values ≡ true → AreValuesOf a w.responder.core)
