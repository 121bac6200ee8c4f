-- What a core of the manner `values` keeps of the other end (RFC 6733 sections 5.3 and 5.4).
use Rattle.std.specs.Prelude.{◌≡◌, ℕ, ◌==◌, ◌&&◌, Bool, true, false, if◌then◌else◌, List, [], ◌∷◌, length, drop, Option, Some, None, ◌↔◌}
use Rattle.std.specs.Option.{option_and_then}
use Rattle.dia_wire.specs.declared.Key.{Key}
use Rattle.dia_wire.specs.Number.{number}
use Rattle.dia_wire.specs.Wire.{PlainAvp, key_of, SpellsAll}
use Rattle.dia_peer.specs.declared.codes.TheConstants.{ORIGIN_HOST, ORIGIN_REALM, PRODUCT_NAME, RESULT_CODE, DISCONNECT_CAUSE}
use Rattle.dia_peer.specs.declared.connection.values.Value.{Value}
use Rattle.dia_peer.specs.declared.connection.values.Value.TheVariants as value
use Rattle.dia_peer.specs.declared.event.State.{State}
use Rattle.dia_peer.specs.declared.event.State.TheVariants.{WaitCea, WaitCer, Open, WaitDpa}
use Rattle.dia_peer.specs.Core.{PlainConfig, PlainCore}
use Rattle.dia_peer.specs.Messages.{Received, Cer, Cea, Refusal, Dpr}
use Rattle.dia_peer.specs.Table.{same_ids}

abbrev pub awaits_cea : State → Bool
awaits_cea WaitCea = true
awaits_cea state = false

abbrev pub awaits_cer : State → Bool
awaits_cer WaitCer = true
awaits_cer state = false

abbrev pub takes_dpr : State → Bool
takes_dpr Open = true
takes_dpr WaitDpa = true
takes_dpr state = false

-- the other end introduces itself: by the CER that a responder takes, and by the answer to the CER of an initiator
abbrev pub introduces : PlainCore → Received → Bool
introduces c (Cer ids bytes apps) = awaits_cer c.state
introduces c (Cea ids result apps) = awaits_cea c.state && same_ids ids c.last_cer
introduces c (Refusal ids) = awaits_cea c.state && same_ids ids c.last_cer
introduces c what = false

-- the other end leaves
abbrev pub leaves : PlainCore → Received → Bool
leaves c (Dpr ids) = takes_dpr c.state
leaves c what = false

-- what was found, or else what was there
abbrev pub newer : Option (List ℕ) → Option (List ℕ) → Option (List ℕ)
newer None old = old
newer (Some bytes) old = Some bytes

-- the core after a message, with what it keeps of it
abbrev pub keeps : PlainCore → List ℕ → Received → PlainCore → PlainCore
keeps old bytes what new = if old.manner.values then record new { met = newer (if introduces old what then Some bytes else None) new.met; left = newer (if leaves old what then Some bytes else None) new.left } else new

-- ---- values

-- the data of the first AVP of a code without vendor
abbrev pub has_code : ℕ → Key → Bool
has_code code key = (key.code == code) && (key.vendor == 0)

abbrev pub first_data : ℕ → List PlainAvp → Option (List ℕ)
first_data code [] = None
first_data code (v ∷ vs) = if has_code code (key_of v) then Some v.bytes else first_data code vs

abbrev pub number_of : List ℕ → Option ℕ
number_of bytes = if length bytes == 4 then Some (number bytes) else None

-- the code of a value's AVP, and the message that has it
abbrev pub code_of : Value → ℕ
code_of value.Host = ORIGIN_HOST
code_of value.Realm = ORIGIN_REALM
code_of value.Product = PRODUCT_NAME
code_of value.Result = RESULT_CODE
code_of value.Cause = DISCONNECT_CAUSE

abbrev pub said_in : PlainCore → Value → Option (List ℕ)
said_in c value.Cause = c.left
said_in c which = c.met

-- the value that a message has in an AVP of this code; none where there is no message
abbrev pub IsValue : ℕ → Option (List ℕ) → Option (List ℕ) → Type 0
IsValue code None value = value ≡ None
IsValue code (Some message) value = (avps : List PlainAvp) → SpellsAll avps (drop 20 message) → value ≡ first_data code avps

abbrev pub IsNumber : ℕ → Option (List ℕ) → Option ℕ → Type 0
IsNumber code None value = value ≡ None
IsNumber code (Some message) value = (avps : List PlainAvp) → SpellsAll avps (drop 20 message) → value ≡ option_and_then number_of (first_data code avps)

-- the values that a core keeps are those of this configuration
pub record AreValuesOf (c : PlainConfig) (core : PlainCore) : Type 0 where
  pub host : (value : Option (List ℕ)) → IsValue ORIGIN_HOST core.met value ↔ (value ≡ Some c.host)
  pub realm : (value : Option (List ℕ)) → IsValue ORIGIN_REALM core.met value ↔ (value ≡ Some c.realm)
  pub product : (value : Option (List ℕ)) → IsValue PRODUCT_NAME core.met value ↔ (value ≡ Some c.product)
