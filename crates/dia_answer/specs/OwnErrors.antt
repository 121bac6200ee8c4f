-- Where a dictionary's own error message always serves (RFC 6733 section 7.2).
use Rattle.std.specs.Prelude.{◌≡◌, ◌≢◌, ◌<◌, ℕ, List, [], Some, slice_get, IfSome}
use Rattle.std.specs.List.{AllByRecursion}
use Rattle.std.specs.Option.{option_map_or}
use Rattle.dia_wire.specs.declared.Key.{Key}
use Rattle.dia_wire.specs.Wire.{PlainAvp, IsTooLong}
use Rattle.dia_data.specs.Plain.{PlainFormat, FourBytes, DiameterIdentity, Unsigned32}
use Rattle.dia_book.specs.declared.DRule.{DRule}
use Rattle.dia_book.specs.declared.DefHead.TheVariants.{Error}
use Rattle.dia_book.specs.declared.MRule.TheVariants.{Must}
use Rattle.dia_book.specs.declared.Pxy.TheVariants.{Either}
use Rattle.dia_book.specs.Dictionary.{Dictionary, DictEntry, PlainDefinition}
use Rattle.dia_dict.specs.Base.{base}
use Rattle.dia_valid.specs.Valid.{known}
use Rattle.dia_answer.specs.declared.contents.Extent.{Extent}
use Rattle.dia_answer.specs.declared.forms.Form.TheVariants as form
use Rattle.dia_answer.specs.Requests.{AreBytes}
use Rattle.dia_answer.specs.Stocks.{error_message}
use Rattle.dia_answer.specs.Bodies.{IsStock, Parts, in_order, origin_host, origin_realm, result_code}
use Rattle.dia_answer.specs.Sources.{in_extent}

-- the rules of the base dictionary's answer-message
abbrev pub error_rules : List DRule
error_rules = option_map_or (λ (def : PlainDefinition). def.rules) (slice_get base.commands 6) []

abbrev pub HasFormat : Dictionary → Key → PlainFormat → Type 0
HasFormat d key f = (e : DictEntry) × (known d key ≡ Some e) × (e.format ≡ f)

-- the dictionary's error message has the base dictionary's header and rules, and Result-Code, Origin-Host and Origin-Realm have their formats. Any M rules do, but for that of Error-Message, whose M flag is clear (section 7.3)
pub record HasErrorsOfBase (d : Dictionary) : Type 0 where
  pub place : ℕ
  pub command : PlainDefinition
  pub at : slice_get d.commands place ≡ Some command
  pub head : command.head ≡ Error Either
  pub rules : command.rules ≡ error_rules
  pub code : HasFormat d result_code (FourBytes Unsigned32)
  pub host : HasFormat d origin_host DiameterIdentity
  pub realm : HasFormat d origin_realm DiameterIdentity
  pub message : IfSome (known d error_message) (λ e. e.rule ≢ Must)

-- the flags and the data of an AVP are bytes
abbrev pub HoldsBytes : PlainAvp → Type 0
HoldsBytes v = (v.flags < 256) × AreBytes v.bytes

-- each error message of these parts can be written: its AVPs hold bytes, and a message has room for them
abbrev pub CanBeWritten : Dictionary → Parts → Type 0
CanBeWritten d p = (e : Extent) (avps : List PlainAvp) → IsStock d form.Error error_rules (in_extent e p) avps → AllByRecursion HoldsBytes avps × (¬ IsTooLong (in_order error_rules avps))
