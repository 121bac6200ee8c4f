-- Which commands have valid messages, and which AVPs fit, and the findings about those that don't (RFC 6733 sections 3, 3.2, 4.1
-- and 4.4).
use Rattle.std.specs.Prelude.{◌≡◌, ◌⊎◌, ℕ, ◌+◌, ◌^◌, ◌<◌, ◌≤◌, ◌↔◌, Bool, true, false, if◌then◌else◌, List, [], ◌∷◌, length, filter_map, Option, Some, None, slice_get, IfSome, All, Contains, ⊤}
use Rattle.dia_wire.specs.declared.Key.{Key}
use Rattle.dia_wire.specs.Lengths.{three_bytes}
use Rattle.dia_wire.specs.Wire.{PlainAvp, Spells, key_of}
use Rattle.dia_book.specs.declared.DefHead.{DefHead}
use Rattle.dia_book.specs.declared.DefHead.TheVariants.{Group, Command, Error}
use Rattle.dia_book.specs.Dictionary.{Dictionary, DictEntry, PlainDefinition, group_place, groups}
use Rattle.dia_terms.specs.declared.Unknown.{Unknown}
use Rattle.dia_terms.specs.declared.Levels.TheVariants as levels
use Rattle.dia_valid.specs.Valid.{AllFit, IsValidOf}
use Rattle.dia_breaking_sites.specs.Sent.{AreBytes}
use Rattle.dia_breaking_sites.specs.Selection.{max_body}
use Rattle.dia_lint.specs.declared.finding.Finding.{Finding}
use Rattle.dia_lint.specs.declared.finding.Subject.{Subject}
use Rattle.dia_lint.specs.declared.finding.Subject.TheVariants.{Definition}
use Rattle.dia_lint.specs.declared.rule.Rule.{Rule}
use Rattle.dia_lint.specs.declared.rule.Rule.TheVariants.{NoMessage, NoLevel, NeverStands, NeverHeld, NeverListed}

-- ---- what a dictionary lets in

-- some byte string is a valid message of the command with this number
abbrev pub HasMessage : Dictionary → Unknown → ℕ → Type 0
HasMessage d u c = (bytes : List ℕ) × AreBytes bytes × IsValidOf d u levels.Any bytes c

-- some byte string that a message has room for is an AVP of the key that fits, with any number of nested levels
abbrev pub HasAvp : Dictionary → Unknown → Key → Type 0
HasAvp d u key = (bytes : List ℕ) × (v : PlainAvp) × AreBytes bytes × Spells v bytes × (key_of v ≡ key) × AllFit d u levels.Any (v ∷ []) × (length bytes ≤ max_body)

-- the code and the application of a command can be in a header
abbrev pub IsNumbered : DefHead → Type 0
IsNumbered (Group key) = ⊥
IsNumbered (Command code class app p) = (code < three_bytes) × IfSome app (λ a. a < 2 ^ 32)
IsNumbered (Error p) = ⊤

-- of each command
abbrev pub AreNumbered : Dictionary → Type 0
AreNumbered d = (i : ℕ) (command : PlainDefinition) → slice_get d.commands i ≡ Some command → IsNumbered command.head

-- ---- the findings

abbrev pub is_no_message : Rule → Bool
is_no_message NoMessage = true
is_no_message rule = false

abbrev pub is_no_level : Rule → Bool
is_no_level NoLevel = true
is_no_level rule = false

-- a rule about what valid messages have
abbrev pub is_of_messages : Rule → Bool
is_of_messages NoMessage = true
is_of_messages NoLevel = true
is_of_messages NeverStands = true
is_of_messages NeverHeld = true
is_of_messages NeverListed = true
is_of_messages rule = false

-- all findings are of these rules
abbrev pub AreOfMessages : List Finding → Type 0
AreOfMessages found = All (λ (x : Finding). is_of_messages x.rule ≡ true) found

-- all findings are of this rule
abbrev pub AreOf : Rule → List Finding → Type 0
AreOf rule found = All (λ (x : Finding). x.rule ≡ rule) found

-- the number of the definition that a finding is about
abbrev pub definition_in : Subject → Option ℕ
definition_in (Definition def) = Some def
definition_in subject = None

-- the numbers of the definitions that findings of these rules are about, in their order
abbrev pub reported : (Rule → Bool) → List Finding → List ℕ
reported is found = filter_map (λ (x : Finding). if is x.rule then definition_in x.subject else None) found

-- `no-message` is reported of the commands without a valid message
abbrev pub NoMessageIsExact : Dictionary → Unknown → List Finding → Type 0
NoMessageIsExact d u found = (i : ℕ) (command : PlainDefinition) → slice_get d.commands i ≡ Some command → IsNumbered command.head
    → Contains (reported is_no_message found) (length (groups d) + i) ↔ ¬ HasMessage d u (length (groups d) + i)

-- `no-level` is reported of the groups of which no AVP fits
abbrev pub NoLevelIsExact : Dictionary → Unknown → List Finding → Type 0
NoLevelIsExact d u found = (e n : ℕ) (entry : DictEntry) → slice_get d.entries e ≡ Some entry → group_place d e ≡ Some n
    → Contains (reported is_no_level found) n ↔ ¬ HasAvp d u entry.key

-- and each other command has a valid message, so that none is reported where each has one
abbrev pub OthersHaveMessages : Dictionary → Unknown → List Finding → Type 0
OthersHaveMessages d u found = (i : ℕ) (command : PlainDefinition) → slice_get d.commands i ≡ Some command → IsNumbered command.head
    → Contains (reported is_no_message found) (length (groups d) + i) ⊎ HasMessage d u (length (groups d) + i)

-- and of each other group some AVP fits
abbrev pub OthersHaveAvps : Dictionary → Unknown → List Finding → Type 0
OthersHaveAvps d u found = (e n : ℕ) (entry : DictEntry) → slice_get d.entries e ≡ Some entry → group_place d e ≡ Some n
    → Contains (reported is_no_level found) n ⊎ HasAvp d u entry.key

-- the numbers become greater, so each comes once
abbrev pub AreAscending : List ℕ → Type 0
AreAscending numbers = (i j a b : ℕ) → i < j → slice_get numbers i ≡ Some a → slice_get numbers j ≡ Some b → a < b
