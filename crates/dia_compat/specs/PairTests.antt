-- The tests of a table's pairs as answers of yes or no.
use Rattle.std.specs.Prelude.{◌≡◌, ℕ, nat_eq, Bool, true, false, not, ◌&&◌, ◌||◌, ◌==◌, if◌then◌else◌, List, [], ◌∷◌, map, filter, Option, Some, None, is_some, find, position, slice_get, option_and_then}
use Rattle.std.specs.Borrow.{Bor}
use Rattle.std.specs.List.{list_all, list_any}
use Rattle.std.specs.Option.{option_eq, option_map, option_map_or}
use Rattle.std.specs.Str.{bytes_eq}
use Rattle.dia_wire.specs.declared.Key.{Key}
use Rattle.dia_data.specs.Plain.{PlainFormat, AnyBytes, OctetString}
use Rattle.dia_book.specs.declared.MRule.{MRule}
use Rattle.dia_book.specs.declared.MRule.TheVariants.{Must, MustNot, Any as AnyM}
use Rattle.dia_book.specs.declared.Pxy.{Pxy}
use Rattle.dia_book.specs.declared.Pxy.TheVariants.{Clear, Set, Either}
use Rattle.dia_book.specs.declared.Class.{Class}
use Rattle.dia_book.specs.declared.DefHead.{DefHead}
use Rattle.dia_book.specs.declared.DefHead.TheVariants.{Group, Command, Error}
use Rattle.dia_book.specs.declared.DRule.{DRule}
use Rattle.dia_book.specs.Keys.{same_key}
use Rattle.dia_book.specs.Dictionary.{Dictionary, DictEntry, PlainDefinition, definitions, entry_of, same_class, is_command}
use Rattle.dia_valid.specs.Valid.{known, is_listed, has_wildcard}
use Rattle.dia_compat.specs.declared.checking.Test.{Test}
use Rattle.dia_compat.specs.declared.checking.Test.TheVariants.{N1, N2, N3, N4, N5, N6, N7, N8, N9, N10}
use Rattle.dia_compat.specs.Sides.{Sides, Compared}
use Rattle.dia_compat.specs.Tests.{is_kept, is_above_zero, holds_key, may_come}
use Rattle.dia_valid.specs.Rules.{rules_in, wildcard_of}
use Rattle.dia_compat.specs.Tests.{begins_with, common_rule, let_in_rule, covered_rule, own_rule, bounded_wildcard, required_wildcard}

abbrev pub NamePair : Type 0
NamePair = List ℕ × List ℕ

abbrev pub plain_names : Bor (List ℕ) × Bor (List ℕ) → NamePair
plain_names p = (p.0.now, p.1.now)

-- ---- the keys of pairs

abbrev pub entry_named : Dictionary → List ℕ → Option ℕ
entry_named d name = position (λ e. bytes_eq name e.name) d.entries

abbrev pub command_named : Dictionary → List ℕ → Option ℕ
command_named d name = position (λ c. bytes_eq name c.name) d.commands

abbrev pub key_named : Dictionary → List ℕ → Option Key
key_named d name = option_and_then (λ i. option_map (λ e. e.key) (slice_get d.entries i)) (entry_named d name)

-- the key that both names have
abbrev pub pair_key : Dictionary → Dictionary → NamePair → Option Key
pair_key da db p = option_and_then (λ k. option_and_then (λ l. if same_key k l then Some k else None) (key_named db p.1)) (key_named da p.0)

abbrev pub pairs_key : Dictionary → Dictionary → Key → NamePair → Bool
pairs_key da db key p = option_map_or (λ k. same_key k key) (pair_key da db p) false

-- ---- covered keys

abbrev pub is_must_not : MRule → Bool
is_must_not Must = false
is_must_not MustNot = true
is_must_not AnyM = false

abbrev pub may_be_clear : MRule → Bool
may_be_clear Must = false
may_be_clear MustNot = true
may_be_clear AnyM = true

abbrev pub is_octets : PlainFormat → Bool
is_octets (AnyBytes OctetString) = true
is_octets f = false

abbrev pub is_alone : Sides → Key → Bool
is_alone s key = is_kept s.unknown && not (is_some (entry_of s.second key)) && option_map_or (λ e. is_must_not e.rule) (known s.first key) false

-- the key is that of a pair of the table
abbrev pub is_paired : Compared → Key → Bool
is_paired c key = list_any (pairs_key c.sides.first c.sides.second key) c.table.avps

abbrev pub is_covered : Compared → Key → Bool
is_covered c key = is_paired c key || is_alone c.sides key

abbrev pub uncovered_keys : Compared → List Key
uncovered_keys c = filter (λ key. not (is_covered c key)) (map (λ e. e.key) c.sides.first.entries)

-- an AVP that the first doesn't know does no harm in the second
abbrev pub stranger_fits : Dictionary → DictEntry → Bool
stranger_fits da e = is_some (entry_of da e.key) || (is_octets e.format && may_be_clear e.rule)

abbrev pub strangers_fit : Sides → Bool
strangers_fit s = not (is_kept s.unknown) || list_all (stranger_fits s.first) s.second.entries

-- the keys are those of the table's pairs of AVPs
abbrev pub ArePaired : Compared → List Key → Type 0
ArePaired c keys = (key : Key) → holds_key keys key ≡ is_paired c key

-- ---- commands

-- one pair of the names is this
abbrev pub is_pair : List ℕ → List ℕ → NamePair → Bool
is_pair a b p = bytes_eq a p.0 && bytes_eq b p.1

abbrev pub names_app : Dictionary → ℕ → Class → ℕ → Bool
names_app d code class app = list_any (λ c. is_command code class (Some app) c.head) d.commands

-- a definition that is selected for an application is for it, and for no other
abbrev pub is_of_app : DefHead → ℕ → Bool
is_of_app (Group key) app = false
is_of_app (Command code class own p) app = option_eq nat_eq own (Some app)
is_of_app (Error p) app = true

-- a definition of B with this application or none, for a command of A with that
abbrev pub wants_app : Sides → ℕ → Class → Option ℕ → Option ℕ → Bool
wants_app sides code class None None = true
wants_app sides code class None (Some app) = not (names_app sides.first code class app)
wants_app sides code class (Some app) None = not (names_app sides.second code class app)
wants_app sides code class (Some app) (Some other) = app == other

abbrev pub is_wanted : Sides → DefHead → DefHead → Bool
is_wanted sides (Error p) (Error q) = true
is_wanted sides (Command code class app p) (Command other_code other_class other q) = (code == other_code) && same_class class other_class && wants_app sides code class app other
is_wanted sides x y = false

abbrev pub serves_app : Option ℕ → Option ℕ → Bool
serves_app app None = true
serves_app app (Some other) = option_eq nat_eq app (Some other)

abbrev pub serves : DefHead → DefHead → Bool
serves (Error p) (Error q) = true
serves (Command code class app p) (Command other_code other_class other q) = (code == other_code) && same_class class other_class && serves_app app other
serves x y = false

abbrev pub same_code_and_class : DefHead → DefHead → Bool
same_code_and_class (Error p) (Error q) = true
same_code_and_class (Command code class app p) (Command other_code other_class other q) = (code == other_code) && same_class class other_class
same_code_and_class x y = false

abbrev pub p_within : Pxy → Pxy → Bool
p_within p Either = true
p_within Clear Clear = true
p_within Set Set = true
p_within p q = false

abbrev pub p_of : DefHead → Option Pxy
p_of (Group key) = None
p_of (Command code class app p) = Some p
p_of (Error p) = Some p

abbrev pub is_proxiable : DefHead → DefHead → Bool
is_proxiable x y = option_map_or (λ p. option_map_or (λ q. p_within p q) (p_of y) false) (p_of x) true

-- the pairs have this definition of B, if it may be selected for a message of the command
abbrev pub is_ready : Sides → List NamePair → PlainDefinition → PlainDefinition → Bool
is_ready sides pairs c d = not (is_wanted sides c.head d.head) || list_any (is_pair c.name d.name) pairs

-- the pairs have what may be selected for a message of the command
abbrev pub is_selected : Sides → List NamePair → PlainDefinition → Bool
is_selected sides pairs c = list_any (λ d. serves c.head d.head) sides.second.commands && list_all (is_ready sides pairs c) sides.second.commands

-- the table has what may be selected for a message of each of the first's commands
abbrev pub all_selected : Compared → List Bool
all_selected c = map (is_selected c.sides c.table.commands) c.sides.first.commands

abbrev pub is_command_pair : Compared → PlainDefinition → PlainDefinition → Bool
is_command_pair c x y = same_code_and_class x.head y.head && is_proxiable x.head y.head && is_selected c.sides c.table.commands x

-- ---- the tests of two definitions

-- what the first's wildcard lets in is covered
abbrev pub is_wild_covered : Compared → List DRule → Bool
is_wild_covered c a = option_map_or (λ v. not (is_above_zero v.max) || (strangers_fit c.sides && list_all (is_listed a) (uncovered_keys c))) (wildcard_of a) true

abbrev pub is_passed : Compared → Test → List DRule → List DRule → Bool
is_passed c N1 a b = begins_with a b
is_passed c N2 a b = list_all (common_rule b) a
is_passed c N3 a b = list_all (let_in_rule b (has_wildcard b)) a
is_passed c N4 a b = list_all (covered_rule (is_covered c)) a
is_passed c N5 a b = list_all (own_rule (may_come c.sides) a (wildcard_of a)) b
is_passed c N6 a b = not (has_wildcard a) || has_wildcard b
is_passed c N7 a b = option_map_or (λ w. bounded_wildcard a b w.max) (wildcard_of b) true
is_passed c N8 a b = option_map_or (λ w. required_wildcard a b w.min) (wildcard_of b) true
is_passed c N9 a b = is_wild_covered c a
is_passed c N10 a b = true

-- ---- the first test that fails

abbrev pub rule_tests : List Test
rule_tests = N1 ∷ N2 ∷ N3 ∷ N4 ∷ N5 ∷ N6 ∷ N7 ∷ N8 ∷ N9 ∷ []

abbrev pub failed_rules : Compared → List DRule → List DRule → Option Test
failed_rules c a b = find (λ t. not (is_passed c t a b)) rule_tests

-- of two commands by their numbers among the definitions
abbrev pub failed_commands : Compared → ℕ → ℕ → Option Test
failed_commands c i j =
    option_map_or (λ x. option_map_or (λ y. if is_command_pair c x y then failed_rules c x.rules y.rules else Some N10) (slice_get (definitions c.sides.second) j) None)
    (slice_get (definitions c.sides.first) i) None

-- of the definitions of two entries, where both have one
abbrev pub failed_groups : Compared → Option ℕ → Option ℕ → Option Test
failed_groups c x y = option_map_or (λ a. option_map_or (λ b. failed_rules c (rules_in c.sides.first a) (rules_in c.sides.second b)) y None) x None
