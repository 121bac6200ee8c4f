-- The tests of two definitions as answers of yes or no.
use Rattle.std.specs.Prelude.{ℕ, nat_eq, nat_le, Bool, true, false, not, ◌&&◌, ◌||◌, ◌==◌, List, [], ◌∷◌, Option, Some, None, is_some}
use Rattle.std.specs.List.{list_all, list_any}
use Rattle.std.specs.Option.{option_eq, option_map_or}
use Rattle.dia_wire.specs.declared.Key.{Key}
use Rattle.dia_book.specs.declared.DRule.{DRule}
use Rattle.dia_book.specs.Keys.{same_key}
use Rattle.dia_book.specs.Dictionary.{entry_of, is_fixed}
use Rattle.dia_terms.specs.declared.Unknown.{Unknown}
use Rattle.dia_terms.specs.declared.Unknown.TheVariants.{Kept, Refused}
use Rattle.dia_valid.specs.Valid.{is_listed}
use Rattle.dia_compat.specs.Sides.{Sides}
use Rattle.dia_valid.specs.Rules.{rule_of, wildcard_of}

-- ---- bounds

abbrev pub is_max_within : Option ℕ → Option ℕ → Bool
is_max_within max None = true
is_max_within None (Some n) = false
is_max_within (Some m) (Some n) = nat_le m n

abbrev pub is_within : DRule → DRule → Bool
is_within a b = nat_le b.min a.min && is_max_within a.max b.max

-- some AVP may occur by the rule
abbrev pub is_above_zero : Option ℕ → Bool
is_above_zero max = not (option_eq nat_eq max (Some 0))

abbrev pub is_kept : Unknown → Bool
is_kept Kept = true
is_kept Refused = false

-- ---- look-ups

-- what a test says of the key of a rule; it says nothing of the wildcard
abbrev pub of_key : (Key → Bool) → DRule → Bool
of_key test r = option_map_or test r.key true

-- the key is one of these
abbrev pub holds_key : List Key → Key → Bool
holds_key keys key = list_any (same_key key) keys

-- a wildcard of the first may let the key in
abbrev pub may_come : Sides → Key → Bool
may_come s key = is_kept s.unknown || is_some (entry_of s.first key)

-- ---- each test

-- a rule at the place of a fixed one, with counts within its
abbrev pub leads : DRule → DRule → Bool
leads r s = is_fixed r && option_eq same_key r.key s.key && is_within r s

-- the fixed rules of the second are the first ones of the first, where fixed rules come first in both
abbrev pub begins_with : List DRule → List DRule → Bool
begins_with a [] = true
begins_with [] (s ∷ b) = not (is_fixed s)
begins_with (r ∷ a) (s ∷ b) = not (is_fixed s) || (leads r s && begins_with a b)

abbrev pub common_rule : List DRule → DRule → Bool
common_rule b r = of_key (λ key. option_map_or (is_within r) (rule_of b key) true) r

abbrev pub let_in_rule : List DRule → Bool → DRule → Bool
let_in_rule b wild r = of_key (λ key. not (is_above_zero r.max) || is_listed b key || wild) r

abbrev pub covered_rule : (Key → Bool) → DRule → Bool
covered_rule covered r = of_key (λ key. not (is_above_zero r.max) || covered key) r

-- what the first's wildcard lets in, as often as it does
abbrev pub has_room : Option DRule → Option ℕ → Bool
has_room wildcard max = option_map_or (λ w. is_max_within w.max max) wildcard true

abbrev pub own_rule : (Key → Bool) → List DRule → Option DRule → DRule → Bool
own_rule may_come a wildcard s = of_key (λ key. is_listed a key || ((s.min == 0) && (not (may_come key) || has_room wildcard s.max))) s

abbrev pub listed_rule : List DRule → DRule → Bool
listed_rule b r = of_key (λ key. not (is_above_zero r.max) || is_listed b key) r

abbrev pub bounded_wildcard : List DRule → List DRule → Option ℕ → Bool
bounded_wildcard a b None = true
bounded_wildcard a b (Some max) = list_all (listed_rule b) a && has_room (wildcard_of a) (Some max)

abbrev pub required_wildcard : List DRule → List DRule → ℕ → Bool
required_wildcard a b min = (min == 0) || (option_map_or (λ v. nat_le min v.min) (wildcard_of a) false && list_all (of_key (is_listed a)) b)
