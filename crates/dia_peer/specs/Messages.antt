-- The messages that a core sends and reads (RFC 6733 sections 5.3 to 5.5).
use Rattle.std.specs.Prelude.{◌≡◌, ℕ, ◌+◌, ◌⊎◌, ◌%◌, ◌^◌, Bool, true, false, List, [], ◌∷◌, ◌++◌, length, map, Option, Some, None, Contains, IsTrue, take, drop, ◌↔◌}
use Rattle.std.specs.List.{filter_map}
use Rattle.std.specs.Int.{w16, w32, to_be_bytes}
use Rattle.dia_wire.specs.declared.Header.{Header}
use Rattle.dia_wire.specs.declared.avp.TheConstants.{AVP_MANDATORY}
use Rattle.dia_wire.specs.declared.header.TheConstants.{COMMAND_REQUEST}
use Rattle.dia_wire.specs.Number.{number}
use Rattle.dia_wire.specs.Wire.{PlainAvp, key_of, SpellsAll, IsMessage, MessageWithZeros}
use Rattle.dia_dict.specs.Base.{base}
use Rattle.dia_check.specs.declared.Unknown.TheVariants.{Kept}
use Rattle.dia_check.specs.declared.Levels.TheVariants.{Any}
use Rattle.dia_valid.specs.Valid.{IsValid, HasR, HasE}
use Rattle.dia_check.specs.Faults.{HasLength}
use Rattle.dia_peer.specs.declared.codes.TheConstants.{
  ANSWER,
  CAPABILITIES_EXCHANGE,
  DEVICE_WATCHDOG,
  DISCONNECT_PEER,
  HOST_IP_ADDRESS,
  AUTH_APPLICATION_ID,
  ACCT_APPLICATION_ID,
  VENDOR_SPECIFIC_APPLICATION_ID,
  ORIGIN_HOST,
  VENDOR_ID,
  RESULT_CODE,
  PRODUCT_NAME,
  DISCONNECT_CAUSE,
  ORIGIN_STATE_ID,
  ORIGIN_REALM,
  SUCCESS,
}
use Rattle.dia_peer.specs.declared.config.Kind.{Kind}
use Rattle.dia_peer.specs.declared.config.Kind.TheVariants.{Auth, Acct}
use Rattle.dia_peer.specs.declared.config.App.{App}
use Rattle.dia_peer.specs.declared.config.Ip.{Ip}
use Rattle.dia_peer.specs.declared.config.Ip.TheVariants.{V4, V6}
use Rattle.dia_peer.specs.declared.event.Cause.{Cause}
use Rattle.dia_peer.specs.declared.event.Cause.TheVariants.{Rebooting, Busy, DoNotWant}
use Rattle.dia_peer.specs.declared.kept_requests.Ids.{Ids}
use Rattle.dia_peer.specs.Core.{PlainConfig, Pair, Sent, are_in_order}

-- an AVP of this project's messages
abbrev pub avp : ℕ → ℕ → List ℕ → PlainAvp
avp code flags bytes = record { code = code; flags = flags; vendor = None; bytes = bytes }

abbrev pub avp32 : ℕ → ℕ → PlainAvp
avp32 code n = avp code AVP_MANDATORY (to_be_bytes w32 n)

abbrev pub app_code : Kind → ℕ
app_code Auth = AUTH_APPLICATION_ID
app_code Acct = ACCT_APPLICATION_ID

-- 12 bytes, of an AVP with no Vendor-ID and four bytes of data
abbrev pub spelled : PlainAvp → List ℕ
spelled v = to_be_bytes w32 v.code ++ v.flags ∷ 0 ∷ 0 ∷ 12 ∷ v.bytes

abbrev pub app_avp : Kind → Kind → ℕ → Option PlainAvp
app_avp Auth Auth id = Some (avp32 AUTH_APPLICATION_ID id)
app_avp Acct Acct id = Some (avp32 ACCT_APPLICATION_ID id)
app_avp wanted kind id = None

-- an address family and its bytes
abbrev pub address : Ip → List ℕ
address (V4 bytes) = to_be_bytes w16 1 ++ bytes
address (V6 bytes) = to_be_bytes w16 2 ++ bytes

abbrev pub header_of : ℕ → ℕ → Ids → Header
header_of flags code ids = record { flags = flags; code = code; app = 0; hop = ids.hop; e2e = ids.e2e }

abbrev pub origin : PlainConfig → List PlainAvp
origin c = avp ORIGIN_HOST AVP_MANDATORY c.host ∷ avp ORIGIN_REALM AVP_MANDATORY c.realm ∷ []

abbrev pub if_some : {X : Type 0} → (X → PlainAvp) → Option X → List PlainAvp
if_some f None = []
if_some f (Some x) = f x ∷ []

abbrev pub cause_number : Cause → ℕ
cause_number Rebooting = 0
cause_number Busy = 1
cause_number DoNotWant = 2

-- an application without vendor, of one kind
abbrev pub plain_app : Kind → App → Option PlainAvp
plain_app wanted a = elim a.vendor [ None ↦ app_avp wanted a.kind a.id | Some v ↦ None ]

-- a Vendor-Specific-Application-Id
abbrev pub vendor_app : App → Option PlainAvp
vendor_app a = elim a.vendor [ None ↦ None | Some v ↦ Some (avp VENDOR_SPECIFIC_APPLICATION_ID AVP_MANDATORY (spelled (avp32 VENDOR_ID v) ++ spelled (avp32 (app_code a.kind) a.id))) ]

abbrev pub capabilities : PlainConfig → List PlainAvp
capabilities c = map (λ ip. avp HOST_IP_ADDRESS AVP_MANDATORY (address ip)) c.addresses ++ avp32 VENDOR_ID c.vendor ∷ avp PRODUCT_NAME 0 c.product ∷ [] ++ if_some (avp32 ORIGIN_STATE_ID) c.state_id

abbrev pub applications : PlainConfig → List PlainAvp
applications c = filter_map (plain_app Auth) c.apps ++ filter_map (plain_app Acct) c.apps ++ filter_map vendor_app c.apps

abbrev pub cer : PlainConfig → Ids → Sent
cer c ids = record { header = header_of COMMAND_REQUEST CAPABILITIES_EXCHANGE ids; avps = origin c ++ capabilities c ++ applications c }

-- an answer with a result code
abbrev pub cea : PlainConfig → Ids → ℕ → Sent
cea c ids result = record { header = header_of ANSWER CAPABILITIES_EXCHANGE ids; avps = avp32 RESULT_CODE result ∷ origin c ++ capabilities c ++ applications c }

abbrev pub dwa : PlainConfig → Ids → Sent
dwa c ids = record { header = header_of ANSWER DEVICE_WATCHDOG ids; avps = avp32 RESULT_CODE SUCCESS ∷ origin c ++ if_some (avp32 ORIGIN_STATE_ID) c.state_id }

abbrev pub dpa : PlainConfig → Ids → Sent
dpa c ids = record { header = header_of ANSWER DISCONNECT_PEER ids; avps = avp32 RESULT_CODE SUCCESS ∷ origin c }

abbrev pub dwr : PlainConfig → Ids → Sent
dwr c ids = record { header = header_of COMMAND_REQUEST DEVICE_WATCHDOG ids; avps = origin c ++ if_some (avp32 ORIGIN_STATE_ID) c.state_id }

abbrev pub dpr : PlainConfig → Ids → Cause → Sent
dpr c ids cause = record { header = header_of COMMAND_REQUEST DISCONNECT_PEER ids; avps = origin c ++ avp32 DISCONNECT_CAUSE (cause_number cause) ∷ [] }

-- identifiers one greater, 4294967295 followed by 0
abbrev pub after : Ids → Ids
after ids = record { hop = (ids.hop + 1) % 2 ^ 32; e2e = (ids.e2e + 1) % 2 ^ 32 }

-- the messages that a core of this configuration sends
pub data IsOurs (c : PlainConfig) : Sent → Type 0 where
  is_cer : (ids : Ids) → IsOurs c (cer c ids)
  is_cea : (ids : Ids) (result : ℕ) → IsOurs c (cea c ids result)
  is_dwr : (ids : Ids) → IsOurs c (dwr c ids)
  is_dwa : (ids : Ids) → IsOurs c (dwa c ids)
  is_dpr : (ids : Ids) (cause : Cause) → IsOurs c (dpr c ids cause)
  is_dpa : (ids : Ids) → IsOurs c (dpa c ids)

-- ---- what a message is

-- one application that the AVPs advertise, in the body or directly inside a Vendor-Specific-Application-Id
abbrev pub NamesPair : List PlainAvp → Pair → Type 0
NamesPair avps p = (v : PlainAvp) × Contains avps v × (number v.bytes ≡ p.id)
    × (((p.kind ≡ Auth) × (key_of v ≡ record { code = AUTH_APPLICATION_ID; vendor = 0 })) ⊎ ((p.kind ≡ Acct) × (key_of v ≡ record { code = ACCT_APPLICATION_ID; vendor = 0 })))

abbrev pub Advertises : List PlainAvp → Pair → Type 0
Advertises avps p = NamesPair avps p ⊎ ((v : PlainAvp) × (inner : List PlainAvp) × Contains avps v × (key_of v ≡ record { code = VENDOR_SPECIFIC_APPLICATION_ID; vendor = 0 }) × SpellsAll inner v.bytes × NamesPair inner p)

-- exactly these, each once and in order
abbrev pub AreAdvertised : List PlainAvp → List Pair → Type 0
AreAdvertised avps pairs = ((p : Pair) → Contains pairs p ↔ Advertises avps p) × IsTrue (are_in_order pairs)

abbrev pub HasResult : List PlainAvp → ℕ → Type 0
HasResult avps n = (v : PlainAvp) × Contains avps v × (key_of v ≡ record { code = RESULT_CODE; vendor = 0 }) × (number v.bytes ≡ n)

-- what bytes are to a core
pub data Received : Type 0 where
  Unreadable : Received
  Foreign : Received
  Invalid : Received
  -- requests
  Cer : (ids : Ids) (bytes : List ℕ) (apps : List Pair) → Received
  Dwr : (ids : Ids) → Received
  Dpr : (ids : Ids) → Received
  -- answers, and an error answer of the code of Capabilities-Exchange
  Cea : (ids : Ids) (result : ℕ) (apps : List Pair) → Received
  Refusal : (ids : Ids) → Received
  Dwa : (ids : Ids) → Received
  Dpa : (ids : Ids) → Received
  -- error answers of the other two codes
  WatchdogError : (ids : Ids) → Received
  Other : Received

abbrev pub IsOurCode : ℕ → Type 0
IsOurCode code = (code ≡ CAPABILITIES_EXCHANGE) ⊎ (code ≡ DEVICE_WATCHDOG) ⊎ (code ≡ DISCONNECT_PEER)

-- a valid message of this project's three codes
pub record IsGood (bytes : List ℕ) (code : ℕ) (request error : Bool) (ids : Ids) (avps : List PlainAvp) : Type 0 where
  pub header : Header
  pub message : IsMessage header avps bytes
  pub valid : IsValid base Kept Any bytes
  pub code_is : header.code ≡ code
  pub request_is : IsTrue request ↔ HasR header.flags
  pub error_is : IsTrue error ↔ HasE header.flags
  pub ids_are : (header.hop ≡ ids.hop) × (header.e2e ≡ ids.e2e)

abbrev pub IsReceived : List ℕ → Received → Type 0
IsReceived bytes Unreadable = ¬ HasLength bytes (length bytes)
IsReceived bytes Foreign = HasLength bytes (length bytes) × ¬ IsOurCode (number (take 3 (drop 5 bytes)))
IsReceived bytes Invalid = HasLength bytes (length bytes) × IsOurCode (number (take 3 (drop 5 bytes))) × ¬ IsValid base Kept Any bytes
IsReceived bytes (Cer ids same apps) = (avps : List PlainAvp) × IsGood bytes CAPABILITIES_EXCHANGE true false ids avps × (same ≡ bytes) × AreAdvertised avps apps
IsReceived bytes (Dwr ids) = (avps : List PlainAvp) × IsGood bytes DEVICE_WATCHDOG true false ids avps
IsReceived bytes (Dpr ids) = (avps : List PlainAvp) × IsGood bytes DISCONNECT_PEER true false ids avps
IsReceived bytes (Cea ids result apps) = (avps : List PlainAvp) × IsGood bytes CAPABILITIES_EXCHANGE false false ids avps × HasResult avps result × AreAdvertised avps apps
IsReceived bytes (Refusal ids) = (avps : List PlainAvp) × IsGood bytes CAPABILITIES_EXCHANGE false true ids avps
IsReceived bytes (Dwa ids) = (avps : List PlainAvp) × IsGood bytes DEVICE_WATCHDOG false false ids avps
IsReceived bytes (Dpa ids) = (avps : List PlainAvp) × IsGood bytes DISCONNECT_PEER false false ids avps
IsReceived bytes (WatchdogError ids) = (avps : List PlainAvp) × IsGood bytes DEVICE_WATCHDOG false true ids avps
IsReceived bytes Other = (ids : Ids) × (avps : List PlainAvp) × IsGood bytes DISCONNECT_PEER false true ids avps

-- these are the bytes of the message
abbrev pub IsSent : Sent → List ℕ → Type 0
IsSent m bytes = MessageWithZeros m.header m.avps bytes
