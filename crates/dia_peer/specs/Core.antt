-- The state of one end of a connection.
use Rattle.std.specs.Prelude.{◌≡◌, ℕ, ◌^◌, ◌<◌, ◌≤◌, ◌⊎◌, ◌&&◌, ◌||◌, nat_lt, ◌==◌, Bool, true, false, IsTrue, if◌then◌else◌, List, [], ◌∷◌, length, map, filter, Option, Some, None, slice_get, string_bytes, All}
use Rattle.std.specs.List.{list_any, list_all, fold, AllByRecursion}
use Rattle.dia_data.specs.Leaf.{IsGraphic}
use Rattle.dia_wire.specs.declared.Header.{Header}
use Rattle.dia_wire.specs.Wire.{PlainAvp}
use Rattle.dia_peer.specs.declared.codes.TheConstants.{RELAY, NAME_LIMIT, ADDRESS_LIMIT, APP_LIMIT}
use Rattle.dia_peer.specs.declared.config.Role.{Role}
use Rattle.dia_peer.specs.declared.config.Kind.{Kind}
use Rattle.dia_peer.specs.declared.config.Kind.TheVariants.{Auth, Acct}
use Rattle.dia_peer.specs.declared.config.App.{App}
use Rattle.dia_peer.specs.declared.config.Ip.{Ip}
use Rattle.dia_peer.specs.declared.config.Config.{Config}
use Rattle.dia_peer.specs.declared.config.Manner.{Manner}
use Rattle.dia_peer.specs.declared.event.State.{State}
use Rattle.dia_peer.specs.declared.kept_requests.Ids.{Ids}
use Rattle.dia_peer.specs.declared.kept_requests.Taken.{Taken}
use Rattle.std.specs.Str.{IsUtf8}
use Rattle.dia_peer.specs.declared.config.Ip.TheVariants.{V4, V6}

pub record PlainConfig : Type 0 where
  pub host : List ℕ
  pub realm : List ℕ
  pub product : List ℕ
  pub addresses : List Ip
  pub vendor : ℕ
  pub apps : List App
  pub state_id : Option ℕ
  pub hop : ℕ
  pub e2e : ℕ

abbrev pub plain_config : Config → PlainConfig
plain_config c = record {
  host = string_bytes c.host;
  realm = string_bytes c.realm;
  product = string_bytes c.product;
  addresses = c.addresses.items;
  vendor = c.vendor;
  apps = c.apps.items;
  state_id =
      c.state_id;
  hop = c.hop;
  e2e = c.e2e;
}

-- a DiameterIdentity of at most 255 bytes
abbrev pub IsIdentity : List ℕ → Type 0
IsIdentity name = (0 < length name) × (length name ≤ NAME_LIMIT) × All IsGraphic name

-- an application by its kind and number
pub record Pair : Type 0 where
  pub kind : Kind
  pub id : ℕ

abbrev pub pair : Kind → ℕ → Pair
pair kind id = record { kind = kind; id = id }

abbrev pub pair_of : App → Pair
pair_of a = record { kind = a.kind; id = a.id }

abbrev pub the_pair : Kind × ℕ → Pair
the_pair p = record { kind = p.0; id = p.1 }

abbrev pub pairs_of : List (Kind × ℕ) → List Pair
pairs_of pairs = map the_pair pairs

-- no two of one kind and number
abbrev pub AreDistinct : List App → Type 0
AreDistinct apps = (i j : ℕ) (a b : App) → slice_get apps i ≡ Some a → slice_get apps j ≡ Some b → pair_of a ≡ pair_of b → i ≡ j

pub record AreApps (apps : List App) : Type 0 where
  pub some : 0 < length apps
  pub few : length apps ≤ APP_LIMIT
  -- four bytes (RFC 6733 section 3)
  pub numbers : AllByRecursion (λ a. a.id < 2 ^ 32) apps
  pub distinct : AreDistinct apps

-- as many bytes as the family has
abbrev pub IsIp : Ip → Type 0
IsIp (V4 bytes) = length bytes ≡ 4
IsIp (V6 bytes) = length bytes ≡ 16

-- what is asked of every configuration
pub record IsConfig (c : PlainConfig) : Type 0 where
  pub host : IsIdentity c.host
  pub realm : IsIdentity c.realm
  pub product : IsUtf8 c.product × (length c.product ≤ NAME_LIMIT)
  pub addresses : (0 < length c.addresses) × (length c.addresses ≤ ADDRESS_LIMIT) × AllByRecursion IsIp c.addresses
  pub apps : AreApps c.apps

-- ---- manners

-- no manner beyond those of two nodes that talk to each other
abbrev pub plain : Manner
plain = record { relays = false; answers = false; life = false; values = false }

-- the application of relays (RFC 6733 section 2.4) is for those of that manner
abbrev pub MayHold : Manner → List App → Type 0
MayHold manner apps = IsTrue manner.relays ⊎ AllByRecursion (λ a. a.id < RELAY) apps

-- a configuration that a core of this manner accepts
abbrev pub IsAccepted : Manner → PlainConfig → Type 0
IsAccepted manner c = IsConfig c × MayHold manner c.apps

-- ---- sets of applications, Auth first and then by number

abbrev pub comes_before : Pair → Pair → Bool
comes_before p q = elim p.kind [ Auth ↦ elim q.kind [ Auth ↦ nat_lt p.id q.id | Acct ↦ true ] | Acct ↦ elim q.kind [ Auth ↦ false | Acct ↦ nat_lt p.id q.id ] ]

abbrev pub same_kind : Kind → Kind → Bool
same_kind Auth Auth = true
same_kind Acct Acct = true
same_kind k l = false

abbrev pub same_pair : Pair → Pair → Bool
same_pair p q = same_kind p.kind q.kind && (p.id == q.id)

abbrev pub insert_pair : Pair → List Pair → List Pair
insert_pair p [] = p ∷ []
insert_pair p (q ∷ qs) = if comes_before p q then p ∷ q ∷ qs else q ∷ insert_pair p qs

abbrev pub sorted_pairs : List Pair → List Pair
sorted_pairs ps = fold (λ sorted p. insert_pair p sorted) [] ps

-- each once, Auth first and then by number
abbrev pub are_in_order : List Pair → Bool
are_in_order [] = true
are_in_order (p ∷ ps) = list_all (comes_before p) ps && are_in_order ps

-- ---- common applications (RFC 6733 sections 2.4 and 5.3)

-- all applications, as an end that relays advertises them
abbrev pub all : List Pair
all = pair Auth RELAY ∷ []

-- the number of relays is among these
abbrev pub is_relay : List Pair → Bool
is_relay ps = list_any (λ p. p.id == RELAY) ps

-- whether these are to be read as those of a relay
abbrev pub relays : Manner → List Pair → Bool
relays manner ps = manner.relays && is_relay ps

-- of a relay: the applications of the other end, up to as many as a configuration may have
abbrev pub all_of : List Pair → Option (List Pair)
all_of theirs = if nat_lt APP_LIMIT (length theirs) then None else Some theirs

-- our applications and theirs, by whether ours are a relay's and whether theirs are
abbrev pub common_by : Bool → Bool → List Pair → List Pair → Option (List Pair)
common_by true true ours theirs = Some all
common_by true false ours theirs = all_of theirs
common_by false true ours theirs = Some (sorted_pairs ours)
common_by false false ours theirs = Some (filter (λ p. list_any (same_pair p) theirs) (sorted_pairs ours))

-- the applications that a configuration has in common with these. None: more than an end may hold
abbrev pub common_of : Manner → PlainConfig → List Pair → Option (List Pair)
common_of manner c theirs = common_by (relays manner (map pair_of c.apps)) (relays manner theirs) (map pair_of c.apps) theirs

-- messages of the application are for this connection: each connection has the base protocol
abbrev pub Serves : List Pair → ℕ → Type 0
Serves common n = (n ≡ 0) ⊎ IsTrue (list_any (λ p. (p.id == RELAY) || (p.id == n)) common)

-- ---- a core

pub record Sent : Type 0 where
  pub header : Header
  pub avps : List PlainAvp

-- the CER that was accepted: its bytes, and the identifiers that its CEA repeats
pub record PlainTaken : Type 0 where
  pub bytes : List ℕ
  pub ids : Ids

abbrev pub taken_of : Taken → PlainTaken
taken_of t = record { bytes = t.bytes.items; ids = t.ids }

pub record PlainCore : Type 0 where
  pub config : PlainConfig
  pub role : Role
  pub manner : Manner
  pub state : State
  pub common : List Pair
  pub next : Ids
  pub last_cer : Option Ids
  pub last_dwr : Option Ids
  pub last_dpr : Option Ids
  pub waits : Bool
  pub suspect : Bool
  pub taken : Option PlainTaken
  -- of the other end: the message in which it introduced itself, and its DPR
  pub met : Option (List ℕ)
  pub left : Option (List ℕ)
