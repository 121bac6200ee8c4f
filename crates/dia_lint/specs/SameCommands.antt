-- Commands for an application whose rules place the same AVPs as those of the command for none (RFC 6733 sections 3 and 3.2): a
-- finding for each.
use Rattle.std.specs.Prelude.{◌≡◌, ◌↔◌, ℕ, zero, suc, ◌+◌, Bool, false, if◌then◌else◌, List, [], ◌++◌, length, Option, Some, None, option_and_then, option_to_list, slice_get}
use Rattle.std.specs.Option.{option_map, option_map_or}
use Rattle.dia_wire.specs.declared.Key.{Key}
use Rattle.dia_book.specs.declared.Class.{Class}
use Rattle.dia_book.specs.declared.DefHead.{DefHead}
use Rattle.dia_book.specs.declared.DefHead.TheVariants.{Group, Command, Error}
use Rattle.dia_book.specs.declared.DRule.{DRule}
use Rattle.dia_book.specs.declared.Pxy.{Pxy}
use Rattle.dia_book.specs.Dictionary.{Dictionary, definitions, groups}
use Rattle.dia_valid.specs.Rules.{rules_in}
use Rattle.dia_valid.specs.Valid.{Placed}
use Rattle.dia_lint.specs.declared.detail.Detail.TheVariants as detail
use Rattle.dia_lint.specs.declared.finding.Finding.{Finding}
use Rattle.dia_lint.specs.declared.rule.Rule.TheVariants as rule
use Rattle.dia_lint.specs.Guidelines.{at_head}
use Rattle.dia_lint.specs.Pairs.{general, same_p}

-- the head of the definition with this number
abbrev pub head_of : Dictionary → ℕ → Option DefHead
head_of d def = option_map (λ x. x.head) (slice_get (definitions d) def)

-- a command for an application, and the command of the same code, class and P flag for none
pub record AreBeside (d : Dictionary) (def other : ℕ) : Type 0 where
  pub code : ℕ
  pub class : Class
  pub app : ℕ
  pub p : Pxy
  pub own : head_of d def ≡ Some (Command code class (Some app) p)
  pub general : head_of d other ≡ Some (Command code class None p)

-- the AVPs of the same keys are where the rules of both definitions say (RFC 6733 section 3.2)
abbrev pub SamePlaces : List DRule → List DRule → Type 0
SamePlaces rules others = (keys : List Key) → Placed rules keys ↔ Placed others keys

-- the command beside the one with this number, if the rules of both place the same
abbrev pub IsSameAs : Dictionary → ℕ → Option ℕ → Type 0
IsSameAs d def found = (other : ℕ) → (found ≡ Some other) ↔ (AreBeside d def other × SamePlaces (rules_in d def) (rules_in d other))

-- ---- the findings

abbrev pub same_finding : ℕ → Option ℕ → Option Finding
same_finding def other = option_map (λ n. at_head def rule.SameCommand (detail.As n)) other

-- those of the first n commands, in their order: one for each that has such a command beside it
abbrev pub AreSameCommands : Dictionary → ℕ → List Finding → Type 0
AreSameCommands d zero found = found ≡ []
AreSameCommands d (suc n) found = (before : List Finding) × (other : Option ℕ) × AreSameCommands d n before × IsSameAs d (length (groups d) + n) other
    × (found ≡ before ++ option_to_list (same_finding (length (groups d) + n) other))

-- ---- how the command beside another is found

-- a command for no application with this P flag
abbrev pub is_general : Pxy → DefHead → Bool
is_general p (Group key) = false
is_general p (Command code class None q) = same_p q p
is_general p (Command code class (Some app) q) = false
is_general p (Error q) = false

abbrev pub general_with : Dictionary → ℕ → Class → Pxy → Option ℕ
general_with d code class p = option_and_then (λ n. if option_map_or (is_general p) (head_of d n) false then Some n else None) (general d code class)

abbrev pub beside_head : Dictionary → DefHead → Option ℕ
beside_head d (Group key) = None
beside_head d (Command code class None p) = None
beside_head d (Command code class (Some app) p) = general_with d code class p
beside_head d (Error p) = None

abbrev pub beside : Dictionary → ℕ → Option ℕ
beside d def = option_and_then (beside_head d) (head_of d def)
