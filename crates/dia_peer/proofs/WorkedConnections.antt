use Rattle.std.proofs.Common.{◌≡◌, ℕ, List, [], ◌∷◌, ◌++◌, length, None, refl}
use Rattle.std.specs.Prelude.{codes, ◌+◌}
use Rattle.std.specs.List.{flat_map}
use Rattle.dia_wire.specs.Number.{number}
use Rattle.dia_wire.specs.Written.{avp_bytes, header_bytes}
use Rattle.dia_peer.specs.declared.kept_requests.Ids.{Ids}
use Rattle.dia_peer.specs.declared.config.Role.TheVariants.{Initiator, Responder}
use Rattle.dia_peer.specs.declared.event.State.TheVariants.{Open}
use Rattle.dia_peer.specs.declared.config.Kind.TheVariants.{Auth, Acct}
use Rattle.dia_peer.specs.declared.config.Ip.TheVariants.{V4}
use Rattle.dia_peer.specs.declared.event.Why.TheVariants as why
use Rattle.dia_peer.specs.Core.{PlainConfig, Pair, PlainCore, Sent, plain}
use Rattle.dia_peer.specs.Messages.{cer, cea, dwr, Cer, Cea}
use Rattle.dia_peer.specs.Table.{happens, Starts, Gets, Ticks, Sends, Closes, Outcome}
use Rattle.dia_peer.specs.World.{idle}

abbrev ids : ℕ → ℕ → Ids
ids hop e2e = record { hop = hop; e2e = e2e }

abbrev a : PlainConfig
a = record {
  host = codes "a.b";
  realm = codes "b";
  product = codes "p";
  addresses = V4 (127 ∷ 0 ∷ 0 ∷ 1 ∷ []) ∷ [];
  vendor = 0;
  apps = record { kind = Auth; id = 1; vendor = None } ∷ record { kind = Auth; id = 4; vendor = None } ∷ [];
  state_id = None;
  hop = 1;
  e2e = 1;
}

abbrev b : PlainConfig
b = record {
  host = codes "c.d";
  realm = codes "d";
  product = codes "q";
  addresses = V4 (127 ∷ 0 ∷ 0 ∷ 2 ∷ []) ∷ [];
  vendor = 0;
  apps = record { kind = Auth; id = 4; vendor = None } ∷ record { kind = Acct; id = 3; vendor = None } ∷ [];
  state_id = None;
  hop = 1;
  e2e = 1;
}

abbrev bytes_of : Sent → List ℕ
bytes_of m = let body = flat_map avp_bytes m.avps in header_bytes m.header (20 + length body) ++ body

-- the first CER
is_cer : bytes_of (cer a (ids 1 1)) ≡ 1 ∷ 0 ∷ 0 ∷ 108 ∷ 128 ∷ 0 ∷ 1 ∷ 1 ∷ 0 ∷ 0 ∷ 0 ∷ 0 ∷ 0 ∷ 0 ∷ 0 ∷ 1 ∷ 0 ∷ 0 ∷ 0 ∷ 1
    ∷ 0 ∷ 0 ∷ 1 ∷ 8 ∷ 64 ∷ 0 ∷ 0 ∷ 11 ∷ 97 ∷ 46 ∷ 98 ∷ 0 ∷ 0 ∷ 0 ∷ 1 ∷ 40 ∷ 64 ∷ 0 ∷ 0 ∷ 9 ∷ 98 ∷ 0 ∷ 0 ∷ 0
    ∷ 0 ∷ 0 ∷ 1 ∷ 1 ∷ 64 ∷ 0 ∷ 0 ∷ 14 ∷ 0 ∷ 1 ∷ 127 ∷ 0 ∷ 0 ∷ 1 ∷ 0 ∷ 0
    ∷ 0 ∷ 0 ∷ 1 ∷ 10 ∷ 64 ∷ 0 ∷ 0 ∷ 12 ∷ 0 ∷ 0 ∷ 0 ∷ 0
    ∷ 0 ∷ 0 ∷ 1 ∷ 13 ∷ 0 ∷ 0 ∷ 0 ∷ 9 ∷ 112 ∷ 0 ∷ 0 ∷ 0
    ∷ 0 ∷ 0 ∷ 1 ∷ 2 ∷ 64 ∷ 0 ∷ 0 ∷ 12 ∷ 0 ∷ 0 ∷ 0 ∷ 1
    ∷ 0 ∷ 0 ∷ 1 ∷ 2 ∷ 64 ∷ 0 ∷ 0 ∷ 12 ∷ 0 ∷ 0 ∷ 0 ∷ 4 ∷ []
is_cer = refl

-- the first CEA
is_cea : bytes_of (cea b (ids 1 1) 2001) ≡ 1 ∷ 0 ∷ 0 ∷ 120 ∷ 0 ∷ 0 ∷ 1 ∷ 1 ∷ 0 ∷ 0 ∷ 0 ∷ 0 ∷ 0 ∷ 0 ∷ 0 ∷ 1 ∷ 0 ∷ 0 ∷ 0 ∷ 1
    ∷ 0 ∷ 0 ∷ 1 ∷ 12 ∷ 64 ∷ 0 ∷ 0 ∷ 12 ∷ 0 ∷ 0 ∷ 7 ∷ 209
    ∷ 0 ∷ 0 ∷ 1 ∷ 8 ∷ 64 ∷ 0 ∷ 0 ∷ 11 ∷ 99 ∷ 46 ∷ 100 ∷ 0 ∷ 0 ∷ 0 ∷ 1 ∷ 40 ∷ 64 ∷ 0 ∷ 0 ∷ 9 ∷ 100 ∷ 0 ∷ 0 ∷ 0
    ∷ 0 ∷ 0 ∷ 1 ∷ 1 ∷ 64 ∷ 0 ∷ 0 ∷ 14 ∷ 0 ∷ 1 ∷ 127 ∷ 0 ∷ 0 ∷ 2 ∷ 0 ∷ 0
    ∷ 0 ∷ 0 ∷ 1 ∷ 10 ∷ 64 ∷ 0 ∷ 0 ∷ 12 ∷ 0 ∷ 0 ∷ 0 ∷ 0
    ∷ 0 ∷ 0 ∷ 1 ∷ 13 ∷ 0 ∷ 0 ∷ 0 ∷ 9 ∷ 113 ∷ 0 ∷ 0 ∷ 0
    ∷ 0 ∷ 0 ∷ 1 ∷ 2 ∷ 64 ∷ 0 ∷ 0 ∷ 12 ∷ 0 ∷ 0 ∷ 0 ∷ 4
    ∷ 0 ∷ 0 ∷ 1 ∷ 3 ∷ 64 ∷ 0 ∷ 0 ∷ 12 ∷ 0 ∷ 0 ∷ 0 ∷ 3 ∷ []
is_cea = refl

abbrev auth : ℕ → Pair
auth n = record { kind = Auth; id = n }

abbrev acct : ℕ → Pair
acct n = record { kind = Acct; id = n }

abbrev waiting : PlainCore
waiting = (happens (idle a Initiator plain) Starts).core

abbrev listening : PlainCore
listening = (happens (idle b Responder plain) Starts).core

-- the CER opens the responder, with the one application that both have; a second one changes nothing, and gets the same answer
abbrev opened : Outcome
opened = happens listening (Gets (Cer (ids 1 1) (codes "cer") (auth 1 ∷ auth 4 ∷ [])))

opens : (opened.core.state ≡ Open) × (opened.core.common ≡ auth 4 ∷ []) × (opened.deeds ≡ Sends (cea b (ids 1 1) 2001) ∷ [])
opens = (refl, refl, refl)

repeats : happens opened.core (Gets (Cer (ids 1 1) (codes "cer") (auth 1 ∷ auth 4 ∷ []))) ≡ record { core = opened.core; deeds = Sends (cea b (ids 1 1) 2001) ∷ [] }
repeats = refl

-- the CEA opens the initiator
answers : ((happens waiting (Gets (Cea (ids 1 1) 2001 (auth 4 ∷ acct 3 ∷ [])))).core.state ≡ Open) × ((happens waiting (Gets (Cea (ids 1 1) 2001 (auth 4 ∷ acct 3 ∷ [])))).core.common ≡ auth 4 ∷ [])
answers = (refl, refl)

-- no application in common
none_shared : (happens listening (Gets (Cer (ids 1 1) (codes "cer") (auth 1 ∷ [])))).deeds ≡ Sends (cea b (ids 1 1) 5010) ∷ Closes why.NoCommon ∷ []
none_shared = refl

-- two ticks with nothing between
abbrev ticked : Outcome
ticked = happens opened.core Ticks

ticks : (ticked.deeds ≡ Sends (dwr b (ids 1 1)) ∷ []) × ((happens ticked.core Ticks).deeds ≡ Closes why.Watchdog ∷ [])
ticks = (refl, refl)

-- why the bytes of the world have to be bytes: lists of other numbers spell one field in two ways
two_spellings : (number (0 ∷ 0 ∷ 1 ∷ 8 ∷ []) ≡ 264) × (number (0 ∷ 0 ∷ 0 ∷ 264 ∷ []) ≡ 264)
two_spellings = (refl, refl)
