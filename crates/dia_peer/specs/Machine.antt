-- What one step of a core does, and why a configuration is refused.
use Rattle.std.specs.Prelude.{◌≡◌, ℕ, true, false, ◌<◌, ◌≤◌, ◌⊎◌, List, [], ◌∷◌, length, map, Option, Some, None, IsTrue, All, Contains, ⊤}
use Rattle.dia_wire.specs.Wire.{MessageWithZeros}
use Rattle.dia_dict.specs.Base.{base}
use Rattle.dia_check.specs.declared.Unknown.TheVariants.{Kept}
use Rattle.dia_check.specs.declared.Levels.TheVariants.{Any}
use Rattle.dia_valid.specs.Valid.{IsValid}
use Rattle.dia_answer.specs.Dictionaries.{opaque}
use Rattle.dia_answer.specs.Reports.{IsRequest}
use Rattle.dia_peer.specs.declared.codes.TheConstants.{NAME_LIMIT, ADDRESS_LIMIT}
use Rattle.dia_peer.specs.declared.config.Manner.{Manner}
use Rattle.dia_peer.specs.declared.config.ConfigFault.{ConfigFault}
use Rattle.dia_peer.specs.declared.config.ConfigFault.TheVariants as fault
use Rattle.dia_peer.specs.declared.event.Event.{Event}
use Rattle.dia_peer.specs.declared.event.Event.TheVariants as event
use Rattle.dia_peer.specs.declared.event.Output.{Output}
use Rattle.dia_peer.specs.declared.event.Output.TheVariants as output
use Rattle.dia_peer.specs.declared.event.Why.TheVariants as why
use Rattle.dia_peer.specs.Core.{PlainConfig, PlainCore, IsIdentity, AreApps, MayHold, IsAccepted}
use Rattle.dia_peer.specs.Messages.{Received, IsReceived}
use Rattle.dia_peer.specs.Table.{Happening, Starts, Gets, Ticks, Stops, Breaks, Deed, Sends, Closes, Outcome, happens}
use Rattle.dia_peer.specs.Life.{lives}
use Rattle.dia_peer.specs.Values.{keeps}
use Rattle.dia_peer.specs.Replies.{HasNoReply, IsReplied, IsReply, replies}
use Rattle.dia_peer.specs.Outputs.{PlainOutput, SentBytes, ClosedFor, plain_output}

abbrev pub IsHappening : Event → Happening → Type 0
IsHappening event.Start h = h ≡ Starts
IsHappening (event.Bytes bytes) h = (what : Received) × IsReceived bytes.now what × (h ≡ Gets what)
IsHappening event.Tick h = h ≡ Ticks
IsHappening (event.Stop cause) h = h ≡ Stops cause
IsHappening event.Lost h = h ≡ Breaks

abbrev pub IsOutput : Deed → Output → Type 0
IsOutput (Sends m) (output.Send bytes) = MessageWithZeros m.header m.avps bytes.items
IsOutput (Closes why) (output.Close reason) = why ≡ reason
IsOutput deed out = ⊥

abbrev pub AreOutputs : List Deed → List Output → Type 0
AreOutputs [] [] = ⊤
AreOutputs (d ∷ ds) (o ∷ os) = IsOutput d o × AreOutputs ds os
AreOutputs ds os = ⊥

-- the same, after the answer to a request, if there is one
abbrev pub AreOutputsAfter : Option (List ℕ) → List Deed → List Output → Type 0
AreOutputsAfter None deeds outputs = AreOutputs deeds outputs
AreOutputsAfter (Some reply) deeds (output.Send bytes ∷ outputs) = (bytes.items ≡ reply) × AreOutputs deeds outputs
AreOutputsAfter (Some reply) deeds outputs = ⊥

-- what is done, and the core afterwards
abbrev pub Does : Outcome → List Output → PlainCore → Type 0
Does outcome outputs new = (new ≡ outcome.core) × AreOutputs outcome.deeds outputs

-- what is sent is a valid message under the base dictionary
abbrev pub IsSound : Output → Type 0
IsSound (output.Send bytes) = IsValid base Kept Any bytes.items
IsSound (output.Close why) = ⊤

-- the answer to a request that is no valid message is a valid message, whatever AVPs its Failed-AVP holds (RFC 6733 section 7.5)
abbrev pub IsSoundReply : List Output → Type 0
IsSoundReply (output.Send bytes ∷ output.Close why.Invalid ∷ []) = IsValid (opaque base) Kept Any bytes.items
IsSoundReply outputs = ⊥

-- what is sent is valid; only the manner `answers` sends such an answer
abbrev pub AreSound : Manner → List Output → Type 0
AreSound manner outputs = All IsSound outputs ⊎ (IsTrue manner.answers × IsSoundReply outputs)

-- one line of the table
abbrev pub IsTableStep : PlainCore → Event → List Output → PlainCore → Type 0
IsTableStep old e outputs new = (h : Happening) × IsHappening e h × (new ≡ (happens old h).core) × AreOutputs (happens old h).deeds outputs

-- no manner, or that of relays
abbrev pub IsPlain : Manner → Type 0
IsPlain manner = (manner.answers ≡ false) × (manner.life ≡ false) × (manner.values ≡ false)

-- what a core keeps of the other end at an event
abbrev pub kept_at : PlainCore → Event → Happening → PlainCore → PlainCore
kept_at old (event.Bytes bytes) (Gets what) new = keeps old bytes.now what new
kept_at old e h new = new

-- what bytes do, by the core's manner
abbrev pub TakesBytes : PlainCore → List ℕ → List Output → PlainCore → Type 0
TakesBytes old bytes outputs new = (what : Received) × IsReceived bytes what × (new ≡ keeps old bytes what (lives old (Gets what)).core)
    × ((reply : Option (List ℕ)) × IsReplied old bytes what reply × AreOutputsAfter reply (lives old (Gets what)).deeds outputs)

-- what a core answers at an event
abbrev pub IsRepliedAt : PlainCore → Event → Happening → Option (List ℕ) → Type 0
IsRepliedAt old (event.Bytes bytes) (Gets what) reply = IsReplied old bytes.now what reply
IsRepliedAt old e h reply = reply ≡ None

-- one step: a line of the table, by the core's manner
abbrev pub IsStep : PlainCore → Event → List Output → PlainCore → Type 0
IsStep old e outputs new = (h : Happening) × IsHappening e h × (new ≡ kept_at old e h (lives old h).core)
    × ((reply : Option (List ℕ)) × IsRepliedAt old e h reply × AreOutputsAfter reply (lives old h).deeds outputs)

-- ---- answers to invalid requests

abbrev pub only_closes : List PlainOutput
only_closes = ClosedFor why.Invalid ∷ []

-- the outputs are the answer to these bytes, which are a request, and the close
abbrev pub AreAnswered : PlainConfig → List ℕ → List Output → Type 0
AreAnswered c bytes outputs = IsRequest bytes × ((reply : List ℕ) × IsReply c bytes reply × (map plain_output outputs ≡ SentBytes reply ∷ only_closes))

-- the close alone, where the bytes get no answer
abbrev pub AreUnanswered : PlainConfig → List ℕ → List Output → Type 0
AreUnanswered c bytes outputs = HasNoReply c bytes × (map plain_output outputs ≡ only_closes)

abbrev pub AreAnsweredAt : PlainConfig → Event → List Output → Type 0
AreAnsweredAt c (event.Bytes bytes) outputs = AreAnswered c bytes.now outputs
AreAnsweredAt c e outputs = ⊥

-- a core that closes for what came only closes, or, with the manner `answers`, answers a request in front of it
abbrev pub AnswersOnly : PlainCore → Event → List Output → Type 0
AnswersOnly old e outputs = Contains (map plain_output outputs) (ClosedFor why.Invalid) → (map plain_output outputs ≡ only_closes) ⊎ (IsTrue old.manner.answers × AreAnsweredAt old.config e outputs)

-- bytes that are no valid message are answered, where they may be
abbrev pub AnswersAt : PlainCore → Event → List Output → Type 0
AnswersAt old (event.Bytes bytes) outputs = (what : Received) → IsReceived bytes.now what → replies old bytes.now what ≡ true → AreAnswered old.config bytes.now outputs ⊎ AreUnanswered old.config bytes.now outputs
AnswersAt old e outputs = ⊤

-- the first thing that is wrong with a configuration for a core of this manner
abbrev pub IsRefusedAs : Manner → PlainConfig → ConfigFault → Type 0
IsRefusedAs manner c fault.Host = ¬ IsIdentity c.host
IsRefusedAs manner c fault.Realm = IsIdentity c.host × ¬ IsIdentity c.realm
IsRefusedAs manner c fault.Product = IsIdentity c.host × IsIdentity c.realm × (NAME_LIMIT < length c.product)
IsRefusedAs manner c fault.Address = IsIdentity c.host × IsIdentity c.realm × (length c.product ≤ NAME_LIMIT) × ((c.addresses ≡ []) ⊎ (ADDRESS_LIMIT < length c.addresses))
IsRefusedAs manner c fault.Application = IsIdentity c.host × IsIdentity c.realm × (length c.product ≤ NAME_LIMIT) × (0 < length c.addresses) × (length c.addresses ≤ ADDRESS_LIMIT) × (¬ (AreApps c.apps × MayHold manner c.apps))
-- memory is allocated where nothing else is wrong
IsRefusedAs manner c fault.NoMemory = IsAccepted manner c
