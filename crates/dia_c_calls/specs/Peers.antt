-- One end of a connection, as programs in C open it.
use Rattle.std.specs.Prelude.{◌≡◌, ◌≢◌, ◌==◌, ℕ, ◌<◌, ◌⊎◌, bit_and, not, List, [], map, replicate, take, Option, Some, None, nat_eq, if◌then◌else◌}
use Rattle.std.specs.Str.{IsUtf8}
use Rattle.dia_peer.specs.declared.config.Role.{Role}
use Rattle.dia_peer.specs.declared.config.Role.TheVariants.{Initiator, Responder}
use Rattle.dia_peer.specs.declared.config.Kind.{Kind}
use Rattle.dia_peer.specs.declared.config.Kind.TheVariants.{Auth, Acct}
use Rattle.dia_peer.specs.declared.config.App.{App}
use Rattle.dia_peer.specs.declared.config.Ip.{Ip}
use Rattle.dia_peer.specs.declared.config.Ip.TheVariants.{V4, V6}
use Rattle.dia_peer.specs.declared.config.ConfigFault.{ConfigFault}
use Rattle.dia_peer.specs.declared.config.ConfigFault.TheVariants as fault
use Rattle.dia_peer.specs.declared.config.Manner.{Manner}
use Rattle.dia_peer.specs.Core.{PlainConfig, IsAccepted, Pair, Serves}
use Rattle.dia_peer.specs.Machine.{IsRefusedAs}
use Rattle.dia_peer.specs.World.{idle}
use Rattle.dia_c_calls.specs.declared.peer_config.PeerAddress.{PeerAddress}
use Rattle.dia_c_calls.specs.declared.peer_config.PeerApp.{PeerApp}
use Rattle.dia_c_calls.specs.declared.peer_config.PeerNumbers.{PeerNumbers}
use Rattle.dia_c_calls.specs.declared.peer_options.PeerOptions.{PeerOptions}
use Rattle.dia_c_calls.specs.PeerSteps.{PlainEnd}

abbrev pub IsRole : ℕ → Type 0
IsRole n = (n ≡ 0) ⊎ (n ≡ 1)

abbrev pub role_of : ℕ → Role
role_of n = if nat_eq n 1 then Responder else Initiator

-- each manner has a bit
abbrev pub IsManner : ℕ → Type 0
IsManner n = n < 16

abbrev pub manner_of : ℕ → Manner
manner_of n = record { relays = not (bit_and n 1 == 0); answers = not (bit_and n 2 == 0); life = not (bit_and n 4 == 0); values = not (bit_and n 8 == 0) }

-- an IPv4 address has the first four of the bytes
abbrev pub ip_of : PeerAddress → Ip
ip_of a = if nat_eq a.is_v6 0 then V4 (take 4 a.bytes) else V6 a.bytes

abbrev pub kind_of : ℕ → Kind
kind_of is_acct = if nat_eq is_acct 0 then Auth else Acct

abbrev pub if_there : ℕ → ℕ → Option ℕ
if_there has_it n = if nat_eq has_it 0 then None else Some n

abbrev pub app_of : PeerApp → App
app_of a = record { kind = kind_of a.is_acct; id = a.id; vendor = if_there a.has_vendor a.vendor }

abbrev pub kind_number : Kind → ℕ
kind_number Auth = 0
kind_number Acct = 1

-- an application that both ends advertise
abbrev pub recorded_pair : Pair → PeerApp
recorded_pair p = record { is_acct = kind_number p.kind; id = p.id; has_vendor = 0; vendor = 0 }

-- the configuration that arguments of C say
abbrev pub config_of : List ℕ → List ℕ → List ℕ → List PeerAddress → List PeerApp → PeerNumbers → PlainConfig
config_of host realm product addresses apps numbers = record {
  host = host;
  realm = realm;
  product = product;
  addresses = map ip_of addresses;
  vendor = numbers.vendor;
  apps = map app_of apps;
  state_id = if_there numbers.has_state_id numbers.state_id;
  hop = numbers.hop;
  e2e = numbers.e2e;
}

-- the configuration that the struct of these arguments says
abbrev pub configured : PeerOptions → PlainConfig
configured o = config_of o.host.now o.realm.now o.product.now o.addresses.now o.apps.now o.numbers

-- the struct has the size of 184 bytes that this library knows, and zeros in the words for fields that are added
abbrev pub AreUnderstood : PeerOptions → Type 0
AreUnderstood o = (o.size ≡ 184) × (o.reserved ≡ replicate 8 0)

abbrev pub fault_number : ConfigFault → ℕ
fault_number fault.NoMemory = 0
fault_number fault.Host = 1
fault_number fault.Realm = 2
fault_number fault.Product = 3
fault_number fault.Address = 4
fault_number fault.Application = 5

-- the first name that is no text
pub data IsNoText (c : PlainConfig) : ConfigFault → Type 0 where
  host : ¬ IsUtf8 c.host → IsNoText c fault.Host
  realm : IsUtf8 c.host → ¬ IsUtf8 c.realm → IsNoText c fault.Realm
  product : IsUtf8 c.host → IsUtf8 c.realm → ¬ IsUtf8 c.product → IsNoText c fault.Product

-- why the configuration is refused: a name that is no text comes before all else
abbrev pub IsFaultOf : Manner → PlainConfig → ConfigFault → Type 0
IsFaultOf manner c f = IsNoText c f ⊎ (IsUtf8 c.host × IsUtf8 c.realm × IsUtf8 c.product × IsRefusedAs manner c f)

-- and the number of this
abbrev pub HasFault : ℕ → PlainConfig → ℕ → Type 0
HasFault manner c n = (f : ConfigFault) × IsFaultOf (manner_of manner) c f × (f ≢ fault.NoMemory) × (n ≡ fault_number f)

-- an end of this configuration before its first event
abbrev pub IsBegunAs : Role → Manner → PlainConfig → PlainEnd → Type 0
IsBegunAs role manner c peer = IsAccepted manner c × (peer ≡ record { core = idle c role manner; left = [] })

abbrev pub IsBegun : ℕ → ℕ → PlainConfig → PlainEnd → Type 0
IsBegun role manner c peer = IsBegunAs (role_of role) (manner_of manner) c peer

-- messages of the application are for this connection
abbrev pub ServesAs : ℕ → PlainEnd → ℕ → Type 0
ServesAs id peer n = (Serves peer.core.common id → n ≡ 1) × (¬ Serves peer.core.common id → n ≡ 0)
