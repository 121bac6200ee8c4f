-- What fails a test of a pair: each rule, AVP or command that the test is about and that doesn't pass it.
use Rattle.std.specs.Prelude.{◌≡◌, ◌↔◌, ◌⊎◌, ℕ, nat_le, Bool, true, false, not, ◌||◌, ◌==◌, if◌then◌else◌, List, [], ◌++◌}
use Rattle.std.specs.Prelude.{Option, Some, None, IsTrue, MatchBool, MatchOption, is_some, position, slice_get, option_and_then, option_to_list}
use Rattle.std.specs.List.{filter_map, enumerate_from, list_any}
use Rattle.std.specs.Option.{option_map, option_map_or}
use Rattle.dia_wire.specs.declared.Key.{Key}
use Rattle.dia_data.specs.Below.{FormatBelow}
use Rattle.dia_book.specs.declared.MRule.TheVariants.{Any as AnyM}
use Rattle.dia_book.specs.declared.DRule.{DRule}
use Rattle.dia_book.specs.Keys.{same_key}
use Rattle.dia_book.specs.Dictionary.{Dictionary, DictEntry, PlainDefinition, lists_key, is_fixed, group_place}
use Rattle.dia_valid.specs.Valid.{is_listed, is_wildcard, has_wildcard}
use Rattle.dia_compat.specs.declared.checking.Answer.{Answer}
use Rattle.dia_compat.specs.declared.checking.Answer.TheVariants.{Yes, No}
use Rattle.dia_compat.specs.declared.checking.PairKind.{PairKind}
use Rattle.dia_compat.specs.declared.checking.PairKind.TheVariants as kind
use Rattle.dia_compat.specs.declared.checking.Test.{Test}
use Rattle.dia_compat.specs.declared.checking.Test.TheVariants.{N1, N2, N3, N4, N5, N6, N7, N8, N9, N10}
use Rattle.dia_compat.specs.declared.reasons.Failing.{Failing}
use Rattle.dia_compat.specs.declared.reasons.Failing.TheVariants as failing
use Rattle.dia_compat.specs.Closed.{BothGrouped}
use Rattle.dia_terms.specs.declared.Unknown.{Unknown}
use Rattle.dia_compat.specs.TableText.{PlainTable}
use Rattle.dia_compat.specs.Sides.{Sides, Compared, compared}
use Rattle.dia_compat.specs.Tests.{is_within, is_max_within, is_above_zero, is_kept, may_come, leads, let_in_rule, covered_rule, listed_rule, of_key}
use Rattle.dia_valid.specs.Rules.{rules_in}
use Rattle.dia_compat.specs.PairTests.{NamePair, entry_named, command_named, is_covered, uncovered_keys, stranger_fits}
use Rattle.dia_compat.specs.PairTests.{same_code_and_class, is_proxiable, serves, is_ready}

-- ---- rules with their places

abbrev pub Placed : Type 0
Placed = ℕ × DRule

abbrev pub placed_at : List DRule → Option ℕ → Option Placed
placed_at rules place = option_and_then (λ i. option_map (λ r. (i, r)) (slice_get rules i)) place

abbrev pub place_of_key : List DRule → Key → Option ℕ
place_of_key rules key = position (lists_key key) rules

abbrev pub placed_rule : List DRule → Key → Option Placed
placed_rule rules key = placed_at rules (place_of_key rules key)

abbrev pub placed_wildcard : List DRule → Option Placed
placed_wildcard rules = placed_at rules (position is_wildcard rules)

-- ---- what fails

abbrev pub unless : Bool → Failing → Option Failing
unless true f = None
unless false f = Some f

-- of the rules of a list, in order
abbrev pub among : (Placed → Option Failing) → List DRule → List Failing
among fails rules = filter_map fails (enumerate_from 0 rules)

-- a fixed rule of the second, where the first's rule at its place is no such rule
abbrev pub fails_fixed : List DRule → Placed → Option Failing
fails_fixed a p = unless (not (is_fixed p.1) || option_map_or (λ r. leads r p.1) (slice_get a p.0) false) (failing.Fixed (option_and_then (place_of_key a) p.1.key) p.0)

-- a rule of the first, where the second's of the same AVP has narrower counts
abbrev pub fails_counts : List DRule → Placed → Option Failing
fails_counts b p = option_and_then (λ key. option_and_then (λ q. unless (is_within p.1 q.1) (failing.Counts p.0 q.0)) (placed_rule b key)) p.1.key

-- the wildcard of the first may bring more than the rule allows
abbrev pub fails_crowded : Bool → Option Placed → Placed → Option Failing
fails_crowded comes wildcard p = option_and_then (λ w. unless (not comes || is_max_within w.1.max p.1.max) (failing.Crowded w.0 p.0)) wildcard

abbrev pub fails_own_key : Sides → List DRule → Option Placed → Placed → Key → Option Failing
fails_own_key s a wildcard p key =
    if is_listed a key then None else if p.1.min == 0 then fails_crowded (may_come s key) wildcard p else Some (failing.Required p.0)

-- a rule of the second of an AVP that the first doesn't list
abbrev pub fails_own : Sides → List DRule → Option Placed → Placed → Option Failing
fails_own s a wildcard p = option_and_then (fails_own_key s a wildcard p) p.1.key

-- N7, where the second's wildcard is at the place and has this greatest count
abbrev pub fails_most : List DRule → List DRule → ℕ → Option ℕ → List Failing
fails_most a b place None = []
fails_most a b place (Some max) = among (λ p. unless (listed_rule b p.1) (failing.CountsAsOther p.0 place)) a
    ++ option_to_list (option_and_then (λ v. unless (is_max_within v.1.max (Some max)) (failing.WildcardMost v.0 place)) (placed_wildcard a))

abbrev pub fails_few : Option Placed → Placed → Option Failing
fails_few None w = Some (failing.WildcardLeast None w.0)
fails_few (Some v) w = unless (nat_le w.1.min v.1.min) (failing.WildcardLeast (Some v.0) w.0)

-- N8, where w is the second's wildcard
abbrev pub fails_least : List DRule → List DRule → Placed → List Failing
fails_least a b w =
    if w.1.min == 0 then [] else option_to_list (fails_few (placed_wildcard a) w) ++ among (λ p. unless (of_key (is_listed a) p.1) (failing.NotCounted p.0 w.0)) b

abbrev pub fails_strangers : Sides → ℕ → List Failing
fails_strangers s place = if is_kept s.unknown then filter_map (λ e. unless (stranger_fits s.first e) (failing.Stranger place e.key)) s.second.entries else []

-- N9, where v is the first's wildcard
abbrev pub fails_let_in : Compared → List DRule → Placed → List Failing
fails_let_in c a v =
    if is_above_zero v.1.max then fails_strangers c.sides v.0 ++ filter_map (λ key. unless (is_listed a key) (failing.LetIn v.0 key)) (uncovered_keys c) else []

-- what fails a test of two definitions
abbrev pub rule_failings : Compared → Test → List DRule → List DRule → List Failing
rule_failings c N1 a b = among (fails_fixed a) b
rule_failings c N2 a b = among (fails_counts b) a
rule_failings c N3 a b = among (λ p. unless (let_in_rule b (has_wildcard b) p.1) (failing.Unlisted p.0)) a
rule_failings c N4 a b = among (λ p. unless (covered_rule (is_covered c) p.1) (failing.Uncovered p.0)) a
rule_failings c N5 a b = among (fails_own c.sides a (placed_wildcard a)) b
rule_failings c N6 a b = option_to_list (option_and_then (λ v. unless (has_wildcard b) (failing.NoWildcard v.0)) (placed_wildcard a))
rule_failings c N7 a b = option_map_or (λ w. fails_most a b w.0 w.1.max) (placed_wildcard b) []
rule_failings c N8 a b = option_map_or (fails_least a b) (placed_wildcard b) []
rule_failings c N9 a b = option_map_or (fails_let_in c a) (placed_wildcard a) []
rule_failings c N10 a b = []

-- ---- what fails of the pair itself

-- whether the test is of the pair itself
abbrev pub is_tenth : Test → Bool
is_tenth N10 = true
is_tenth t = false

-- which of the two names no definition has; only the tenth test asks for them
abbrev pub name_failings : Test → Bool → Bool → List Failing
name_failings t first second = if is_tenth t then option_to_list (unless first failing.FirstName) ++ option_to_list (unless second failing.SecondName) else []

-- that no definition of B serves all messages of a command of A, and which may be selected for them, but are in no pair with it
abbrev pub selection_failings : Compared → PlainDefinition → List Failing
selection_failings c x =
    option_to_list (unless (list_any (λ d. serves x.head d.head) c.sides.second.commands) failing.Unserved)
    ++ filter_map (λ (p : ℕ × PlainDefinition). unless (is_ready c.sides c.table.commands x p.1) (failing.NotBeside p.0)) (enumerate_from 0 c.sides.second.commands)

abbrev pub head_failings : Compared → PlainDefinition → PlainDefinition → List Failing
head_failings c x y =
    option_to_list (unless (same_code_and_class x.head y.head) failing.Heads) ++ option_to_list (unless (is_proxiable x.head y.head) failing.PFlags) ++ selection_failings c x

abbrev pub definition_failings : Compared → Test → PlainDefinition → PlainDefinition → List Failing
definition_failings c t x y = if is_tenth t then head_failings c x y else rule_failings c t x.rules y.rules

abbrev pub place_failings : Compared → Test → Option ℕ → Option ℕ → List Failing
place_failings c t (Some i) (Some j) =
    option_map_or (λ x. option_map_or (definition_failings c t x) (slice_get c.sides.second.commands j) []) (slice_get c.sides.first.commands i) []
place_failings c t x y = name_failings t (is_some x) (is_some y)

abbrev pub command_failings : Compared → NamePair → Test → List Failing
command_failings c p t = place_failings c t (command_named c.sides.first p.0) (command_named c.sides.second p.1)

-- where B's declaration doesn't accept what A's sends
pub record AreDeclarationFailings (e f : DictEntry) (all : List Failing) : Type 0 where
  pub takes_flag : Bool
  pub takes_format : Bool
  pub flag_is : IsTrue takes_flag ↔ ((f.rule ≡ AnyM) ⊎ (f.rule ≡ e.rule))
  pub format_is : IsTrue takes_format ↔ (FormatBelow e.format f.format ⊎ BothGrouped e f)
  pub are : all ≡ option_to_list (unless (same_key e.key f.key) failing.Keys) ++ option_to_list (unless takes_flag failing.MRules) ++ option_to_list (unless takes_format failing.Formats)

-- of the definitions of two entries, where both have one
abbrev pub group_failings : Compared → Test → Option ℕ → Option ℕ → List Failing
group_failings c t (Some x) (Some y) = rule_failings c t (rules_in c.sides.first x) (rules_in c.sides.second y)
group_failings c t x y = []

abbrev pub AreEntryFailings : Compared → Test → ℕ → ℕ → List Failing → Type 0
AreEntryFailings c t i j all =
    MatchBool (is_tenth t) ((e f : DictEntry) → slice_get c.sides.first.entries i ≡ Some e → slice_get c.sides.second.entries j ≡ Some f → AreDeclarationFailings e f all)
    (all ≡ group_failings c t (group_place c.sides.first i) (group_place c.sides.second j))

abbrev pub AreAvpFailings : Compared → Test → Option ℕ → Option ℕ → List Failing → Type 0
AreAvpFailings c t (Some i) (Some j) all = AreEntryFailings c t i j all
AreAvpFailings c t x y all = all ≡ name_failings t (is_some x) (is_some y)

-- ---- a pair of the table

abbrev pub AreFailings : Compared → PairKind → Test → NamePair → List Failing → Type 0
AreFailings c kind.Command t p all = all ≡ command_failings c p t
AreFailings c kind.Avp t p all = AreAvpFailings c t (entry_named c.sides.first p.0) (entry_named c.sides.second p.1) all

abbrev pub pairs_in : PairKind → Compared → List NamePair
pairs_in kind.Command c = c.table.commands
pairs_in kind.Avp c = c.table.avps

-- of the pair at a place; none where the table is shorter
abbrev pub AreFailingsAt : Compared → PairKind → ℕ → Test → List Failing → Type 0
AreFailingsAt c k i t all = MatchOption (slice_get (pairs_in k c) i) (all ≡ []) (λ p. AreFailings c k t p all)

abbrev pub AreFailingsOf : Dictionary → Dictionary → Unknown → PlainTable → PairKind → ℕ → Test → List Failing → Type 0
AreFailingsOf da db u table k i t all = AreFailingsAt (compared (record { first = da; second = db; unknown = u }) table) k i t all

-- of the pair and the test that an answer names; none where it names none
abbrev pub AreFailingsIn : Compared → Answer → List Failing → Type 0
AreFailingsIn c Yes all = all ≡ []
AreFailingsIn c (No k i t) all = AreFailingsAt c k i t all

abbrev pub AreFailingsFor : Dictionary → Dictionary → Unknown → PlainTable → Answer → List Failing → Type 0
AreFailingsFor da db u table Yes all = all ≡ []
AreFailingsFor da db u table (No k i t) all = AreFailingsOf da db u table k i t all
