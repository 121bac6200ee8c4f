-- What the types that hold a message's reading mean.
use Rattle.std.specs.Prelude.{◌≡◌, ℕ, ◌⊎◌, ◌==◌, ◌&&◌, Bool, if◌then◌else◌, List, [], ◌∷◌, ◌++◌, length, map, Option, Some, None, IsSome, IsTrue, Contains}
use Rattle.std.specs.List.{AllByRecursion}
use Rattle.std.specs.Global.{Vec}
use Rattle.std.specs.Option.{option_map}
use Rattle.dia_wire.specs.declared.Key.{Key}
use Rattle.dia_wire.specs.Number.{number}
use Rattle.dia_wire.specs.Wire.{PlainAvp, key_of, SpellsAll}
use Rattle.dia_peer.specs.declared.codes.TheConstants.{AUTH_APPLICATION_ID, ACCT_APPLICATION_ID, VENDOR_SPECIFIC_APPLICATION_ID, RESULT_CODE}
use Rattle.dia_peer.specs.declared.config.Kind.{Kind}
use Rattle.dia_peer.specs.declared.config.Kind.TheVariants.{Auth, Acct}
use Rattle.dia_peer.specs.declared.named_apps.NamedApps.{NamedApps}
use Rattle.dia_peer.specs.declared.incoming.Incoming.{Incoming}
use Rattle.dia_peer.specs.declared.incoming.Incoming.TheVariants as incoming
use Rattle.dia_peer.specs.Core.{Pair, pairs_of}
use Rattle.dia_peer.specs.Messages.{Received, Unreadable, Foreign, Invalid, Cer, Dwr, Dpr, Cea, Refusal, Dwa, Dpa, WatchdogError, Other}

abbrev pub pick : {X : Type 0} → X → X → Kind → X
pick auth acct Auth = auth
pick auth acct Acct = acct

-- the numbers of a kind that are named
abbrev pub numbers_of : NamedApps → Kind → List ℕ
numbers_of n kind = pick n.auth.keys n.acct.keys kind

abbrev pub Has : NamedApps → Pair → Type 0
Has n p = Contains (numbers_of n p.kind) p.id

abbrev pub plain_pairs : Vec (Kind × ℕ) → List Pair
plain_pairs pairs = pairs_of pairs.items

abbrev pub pairs_named : NamedApps → List Pair
pairs_named n = map (λ id. record { kind = Auth; id = id }) n.auth.keys ++ map (λ id. record { kind = Acct; id = id }) n.acct.keys

-- the kind of application that an AVP of this key names (RFC 6733 sections 6.8 and 6.9)
abbrev pub kind_of : Key → Option Kind
kind_of key = if key.vendor == 0 then (if key.code == AUTH_APPLICATION_ID then Some Auth else (if key.code == ACCT_APPLICATION_ID then Some Acct else None)) else None

abbrev pub named_by : PlainAvp → Option Pair
named_by v = option_map (λ kind. record { kind = kind; id = number v.bytes }) (kind_of (key_of v))

-- the number of an application has four bytes
abbrev pub HasNumber : PlainAvp → Type 0
HasNumber v = IsSome (kind_of (key_of v)) → length v.bytes ≡ 4

abbrev pub NamesApplication : PlainAvp → Pair → Type 0
NamesApplication v p = named_by v ≡ Some p

-- one of the AVPs says so
abbrev pub SaidBy : {Q : Type 0} → (PlainAvp → Q → Type 0) → List PlainAvp → Q → Type 0
SaidBy says [] p = ⊥
SaidBy says (v ∷ vs) p = says v p ⊎ SaidBy says vs p

-- a Vendor-Specific-Application-Id (RFC 6733 section 6.11)
abbrev pub is_vendor_specific : Key → Bool
is_vendor_specific key = (key.code == VENDOR_SPECIFIC_APPLICATION_ID) && (key.vendor == 0)

-- the AVP names the application, or one directly inside it does
abbrev pub Records : PlainAvp → Pair → Type 0
Records v p = NamesApplication v p ⊎ (IsTrue (is_vendor_specific (key_of v)) × ((inner : List PlainAvp) × SpellsAll inner v.bytes × SaidBy NamesApplication inner p))

abbrev pub IsReadable : PlainAvp → Type 0
IsReadable v = HasNumber v × (IsTrue (is_vendor_specific (key_of v)) → (inner : List PlainAvp) × SpellsAll inner v.bytes × AllByRecursion HasNumber inner)

-- a Result-Code (RFC 6733 section 7.1)
abbrev pub is_result_code : Key → Bool
is_result_code key = (key.code == RESULT_CODE) && (key.vendor == 0)

abbrev pub IsResult : PlainAvp → ℕ → Type 0
IsResult v n = IsTrue (is_result_code (key_of v)) × (number v.bytes ≡ n)

abbrev pub HasCode : PlainAvp → Type 0
HasCode v = IsTrue (is_result_code (key_of v)) → length v.bytes ≡ 4

abbrev pub received_of : List ℕ → Incoming → Received
received_of bytes incoming.Unreadable = Unreadable
received_of bytes incoming.Foreign = Foreign
received_of bytes incoming.Invalid = Invalid
received_of bytes (incoming.Cer ids named) = Cer ids bytes (pairs_named named)
received_of bytes (incoming.Dwr ids) = Dwr ids
received_of bytes (incoming.Dpr ids) = Dpr ids
received_of bytes (incoming.Cea ids result named) = Cea ids result (pairs_named named)
received_of bytes (incoming.Refusal ids) = Refusal ids
received_of bytes (incoming.Dwa ids) = Dwa ids
received_of bytes (incoming.Dpa ids) = Dpa ids
received_of bytes (incoming.WatchdogError ids) = WatchdogError ids
received_of bytes incoming.Other = Other
