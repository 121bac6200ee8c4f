-- What the sender's side sends under its dictionary, and which of it breaks under the receiver's.
use Rattle.std.specs.Prelude.{◌≡◌, ◌⊎◌, ℕ, zero, suc, ◌<◌, nat_eq, Bool, true, false, not, ◌&&◌, ◌||◌, List, map, Some, slice_get, IsTrue}
use Rattle.std.specs.List.{AllByRecursion, list_all, list_any}
use Rattle.std.specs.Option.{option_eq}
use Rattle.dia_wire.specs.declared.Header.{Header}
use Rattle.dia_wire.specs.declared.Key.{Key}
use Rattle.dia_wire.specs.Wire.{PlainAvp, key_of, SpellsAll, IsMessage}
use Rattle.dia_book.specs.declared.DRule.{DRule}
use Rattle.dia_book.specs.Dictionary.{Dictionary, PlainDefinition, definitions, selected}
use Rattle.dia_terms.specs.declared.Unknown.{Unknown}
use Rattle.dia_terms.specs.declared.Unknown.TheVariants.{Kept, Refused}
use Rattle.dia_terms.specs.declared.Levels.TheVariants as levels
use Rattle.dia_valid.specs.Valid.{HasR, HasE, HasT, class_of, AllowsP, Placed, FitsBy, IsValid, is_listed, is_wildcard}
use Rattle.dia_terms.specs.declared.sends.Sends.{Sends}
use Rattle.dia_terms.specs.declared.sends.Sends.TheVariants as sends

-- what the sender does with AVPs that its dictionary doesn't know
abbrev pub own_policy : Sends → Unknown
own_policy sends.Any = Kept
own_policy sends.Known = Refused
own_policy sends.Filled = Refused
own_policy sends.Listed = Refused

-- ---- wildcards (RFC 6733 section 3.2)

-- the rule's AVP never occurs
abbrev pub forbids : DRule → Bool
forbids rule = option_eq nat_eq rule.max (Some 0)

-- the rule is the wildcard, and lets AVPs in without asking for any: `[ AVP ]`
abbrev pub lets_in_freely : DRule → Bool
lets_in_freely rule = is_wildcard rule && nat_eq rule.min 0 && not (forbids rule)

-- such a wildcard is the only rule that doesn't forbid: the rules say nothing of the AVPs that occur
abbrev pub say_nothing : List DRule → Bool
say_nothing rules = list_any lets_in_freely rules && list_all (λ rule. lets_in_freely rule || forbids rule) rules

-- the sender's side sends AVPs by the wildcard of these rules
abbrev pub is_open : Sends → List DRule → Bool
is_open sends.Any rules = true
is_open sends.Known rules = true
is_open sends.Filled rules = say_nothing rules
is_open sends.Listed rules = false

-- ---- levels, AVPs and messages

-- each AVP comes by a rule of its own, and none through the wildcard
abbrev pub AreListed : List DRule → List Key → Type 0
AreListed rules keys = AllByRecursion (λ key. IsTrue (is_listed rules key)) keys

-- the keys of a level are as the sender's side sends them
abbrev pub StandAsSent : Sends → List DRule → List Key → Type 0
StandAsSent who rules keys = Placed rules keys × (IsTrue (is_open who rules) ⊎ AreListed rules keys)

-- the bytes are AVPs that are sent so, and each has P
abbrev pub IsSentLevel : Sends → (PlainAvp → Type 0) → List DRule → List ℕ → Type 0
IsSentLevel who P rules bytes = (avps : List PlainAvp) × SpellsAll avps bytes × StandAsSent who rules (map key_of avps) × AllByRecursion P avps

-- the AVP can be sent, with at most n nested levels of groups (RFC 6733 section 4.4)
abbrev pub IsSentWithin : Dictionary → Sends → ℕ → PlainAvp → Type 0
IsSentWithin d who zero v = FitsBy d (own_policy who) (λ rules bytes. ⊥) v
IsSentWithin d who (suc n) v = FitsBy d (own_policy who) (IsSentLevel who (IsSentWithin d who n)) v

-- with any number of levels
abbrev pub IsSentAvp : Dictionary → Sends → PlainAvp → Type 0
IsSentAvp d who v = (n : ℕ) × IsSentWithin d who n v

abbrev pub AreSentAvps : Dictionary → Sends → List PlainAvp → Type 0
AreSentAvps d who avps = (n : ℕ) × AllByRecursion (IsSentWithin d who n) avps

abbrev pub AreBytes : List ℕ → Type 0
AreBytes bytes = AllByRecursion (λ byte. byte < 256) bytes

-- the bytes are a message of the command whose number is c, as the sender's side sends it
pub record IsSent (d : Dictionary) (who : Sends) (bytes : List ℕ) (c : ℕ) : Type 0 where
  pub header : Header
  pub avps : List PlainAvp
  pub command : PlainDefinition
  pub are_bytes : AreBytes bytes
  pub message : IsMessage header avps bytes
  pub no_error_request : HasR header.flags → ¬ HasE header.flags
  pub no_repeated_answer : HasT header.flags → HasR header.flags
  pub select : selected d header.code (class_of header.flags) header.app ≡ Some c
  pub is_command : slice_get (definitions d) c ≡ Some command
  pub proxiable : AllowsP command.head header.flags
  pub stand : StandAsSent who command.rules (map key_of avps)
  pub sent : AreSentAvps d who avps

-- such a message that isn't valid under the receiver's dictionary, with this policy for unknown AVPs
abbrev pub Breaks : Dictionary → Dictionary → Sends → Unknown → List ℕ → ℕ → Type 0
Breaks da db who u bytes c = IsSent da who bytes c × (¬ IsValid db u levels.Any bytes)

-- ---- senders

-- the sender that sends the next more
abbrev pub wider : Sends → Sends
wider sends.Listed = sends.Filled
wider sends.Filled = sends.Known
wider sends.Known = sends.Any
wider sends.Any = sends.Any
