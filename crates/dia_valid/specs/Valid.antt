-- Valid messages (RFC 6733 sections 3, 3.2, 4.1 and 4.4).
use Rattle.std.specs.Prelude.{◌≡◌, ℕ, zero, suc, ◌≤◌, ◌⊎◌, ◌==◌, bit_and, Bool, false, not, if◌then◌else◌, List, [], ◌∷◌, ◌++◌, length}
use Rattle.std.specs.Prelude.{map, filter, count_by, Option, Some, is_some, slice_get, IfSome, MatchOption, IsTrue, option_and_then, ⊤}
use Rattle.std.specs.List.{list_any, AllByRecursion}
use Rattle.dia_wire.specs.declared.Header.{Header}
use Rattle.dia_wire.specs.declared.Key.{Key}
use Rattle.dia_wire.specs.Wire.{PlainAvp, key_of, SpellsAll, IsMessage}
use Rattle.dia_data.specs.Leaf.{IsLeaf}
use Rattle.dia_book.specs.declared.MRule.{MRule}
use Rattle.dia_book.specs.declared.MRule.TheVariants.{Must, MustNot, Any as AnyM}
use Rattle.dia_book.specs.declared.Pxy.{Pxy}
use Rattle.dia_book.specs.declared.Pxy.TheVariants.{Clear, Set, Either}
use Rattle.dia_book.specs.declared.Class.{Class}
use Rattle.dia_book.specs.declared.Class.TheVariants.{Request, Answer, Error as ErrorClass}
use Rattle.dia_book.specs.declared.DefHead.{DefHead}
use Rattle.dia_book.specs.declared.DefHead.TheVariants.{Group, Command, Error}
use Rattle.dia_book.specs.declared.DRule.{DRule}
use Rattle.dia_book.specs.Dictionary.{Dictionary, DictEntry, PlainDefinition, is_fixed, lists_key, entry_of, definitions, selected}
use Rattle.dia_terms.specs.declared.Unknown.{Unknown}
use Rattle.dia_terms.specs.declared.Unknown.TheVariants.{Kept, Refused}
use Rattle.dia_terms.specs.declared.Levels.{Levels}
use Rattle.dia_terms.specs.declared.Levels.TheVariants as levels
-- ---- flags

pub use Rattle.dia_wire.specs.Wire.{HasM, HasR, HasP, HasE, HasT}

-- a request by its R flag, and else an error by its E flag
abbrev pub class_of : ℕ → Class
class_of flags = if bit_and flags 128 == 0 then (if bit_and flags 32 == 0 then Answer else ErrorClass) else Request

-- ---- the AVPs of a level (RFC 6733 section 3.2)

abbrev pub InBounds : DRule → ℕ → Type 0
InBounds rule n = (rule.min ≤ n) × IfSome rule.max (λ max. n ≤ max)

abbrev pub fixed_rules : List DRule → List DRule
fixed_rules rules = filter is_fixed rules

abbrev pub loose_rules : List DRule → List DRule
loose_rules rules = filter (λ r. not (is_fixed r)) rules

abbrev pub is_listed : List DRule → Key → Bool
is_listed rules key = list_any (lists_key key) rules

abbrev pub is_wildcard : DRule → Bool
is_wildcard rule = not (is_some rule.key)

abbrev pub has_wildcard : List DRule → Bool
has_wildcard rules = list_any is_wildcard rules

-- a run of each rule's key, one after the other, and what follows them
abbrev pub Runs : List DRule → List Key → List Key → Type 0
Runs [] keys rest = keys ≡ rest
Runs (rule ∷ rules) keys rest = (run : List Key) × (after : List Key) × (keys ≡ run ++ after)
    × AllByRecursion (λ key. rule.key ≡ Some key) run × InBounds rule (length run) × Runs rules after rest

-- after the fixed AVPs: a loose rule's key, or one that no rule lists where there is a wildcard
abbrev pub MayBeLoose : List DRule → Key → Type 0
MayBeLoose rules key = IsTrue (is_listed (loose_rules rules) key) ⊎ ((is_listed rules key ≡ false) × IsTrue (has_wildcard rules))

-- how many of these keys a loose rule counts
abbrev pub counted : List DRule → DRule → List Key → ℕ
counted rules rule keys = count_by (λ key. if is_wildcard rule then not (is_listed rules key) else lists_key key rule) keys

-- the keys are where the rules say
pub record Placed (rules : List DRule) (keys : List Key) : Type 0 where
  pub rest : List Key
  pub runs : Runs (fixed_rules rules) keys rest
  pub loose : AllByRecursion (MayBeLoose rules) rest
  pub counts : AllByRecursion (λ rule. InBounds rule (counted rules rule rest)) (loose_rules rules)

-- ---- AVPs

abbrev pub MHolds : MRule → ℕ → Type 0
MHolds Must flags = HasM flags
MHolds MustNot flags = ¬ HasM flags
MHolds AnyM flags = ⊤

-- an AVP that the dictionary does not know
abbrev pub IsAccepted : Unknown → ℕ → Type 0
IsAccepted Kept flags = ¬ HasM flags
IsAccepted Refused flags = ⊥

abbrev pub known : Dictionary → Key → Option DictEntry
known d key = option_and_then (λ i. slice_get d.entries i) (entry_of d key)

-- the definition of a known group
abbrev pub group_at : Dictionary → PlainAvp → Option PlainDefinition
group_at d v = option_and_then (λ e. e.group) (known d (key_of v))

-- the M flag is as the entry's rule says, or as the policy for unknown AVPs
abbrev pub HasFlags : Dictionary → Unknown → Key → ℕ → Type 0
HasFlags d u key flags = MatchOption (known d key) (IsAccepted u flags) (λ e. MHolds e.rule flags)

-- the bytes are AVPs that are where the rules say, and each has P
abbrev pub IsLevel : (PlainAvp → Type 0) → List DRule → List ℕ → Type 0
IsLevel P rules bytes = (avps : List PlainAvp) × SpellsAll avps bytes × Placed rules (map key_of avps) × AllByRecursion P avps

-- the AVP is as its entry says, where Inner says which data a group may have
abbrev pub FitsBy : Dictionary → Unknown → (List DRule → List ℕ → Type 0) → PlainAvp → Type 0
FitsBy d u Inner v = MatchOption (known d (key_of v)) (IsAccepted u v.flags)
    (λ e. MHolds e.rule v.flags × MatchOption e.group (IsLeaf e.format v.bytes) (λ group. Inner group.rules v.bytes))

-- the AVP fits, with at most n levels of nested groups (RFC 6733 section 4.4)
abbrev pub Fits : Dictionary → Unknown → ℕ → PlainAvp → Type 0
Fits d u zero v = FitsBy d u (λ rules bytes. ⊥) v
Fits d u (suc n) v = FitsBy d u (IsLevel (Fits d u n)) v

-- with any number of levels, or at most this many
abbrev pub AllFit : Dictionary → Unknown → Levels → List PlainAvp → Type 0
AllFit d u levels.Any avps = (n : ℕ) × AllByRecursion (Fits d u n) avps
AllFit d u (levels.AtMost n) avps = AllByRecursion (Fits d u n) avps

-- ---- messages

abbrev pub PHolds : Pxy → ℕ → Type 0
PHolds Clear flags = ¬ HasP flags
PHolds Set flags = HasP flags
PHolds Either flags = ⊤

abbrev pub AllowsP : DefHead → ℕ → Type 0
AllowsP (Group key) flags = ⊥
AllowsP (Command code class app p) flags = PHolds p flags
AllowsP (Error p) flags = PHolds p flags

-- the bytes are a valid message of the command whose number is c
pub record IsValidOf (d : Dictionary) (u : Unknown) (most : Levels) (bytes : List ℕ) (c : ℕ) : Type 0 where
  pub header : Header
  pub avps : List PlainAvp
  pub command : PlainDefinition
  pub message : IsMessage header avps bytes
  pub no_error_request : HasR header.flags → ¬ HasE header.flags
  pub no_repeated_answer : HasT header.flags → HasR header.flags
  pub select : selected d header.code (class_of header.flags) header.app ≡ Some c
  pub is_command : slice_get (definitions d) c ≡ Some command
  pub proxiable : AllowsP command.head header.flags
  pub placed : Placed command.rules (map key_of avps)
  pub fit : AllFit d u most avps

abbrev pub IsValid : Dictionary → Unknown → Levels → List ℕ → Type 0
IsValid d u most bytes = (c : ℕ) × IsValidOf d u most bytes c
