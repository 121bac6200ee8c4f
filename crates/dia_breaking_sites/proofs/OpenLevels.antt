-- Rules that say nothing of the AVPs of their level ask for none.
use Rattle.std.proofs.Common.{◌≡◌, ℕ, ◌≤◌, Bool, true, false, List, [], ◌∷◌, Option, Some, None, ap, subst, arith, inl, inr}
use Rattle.std.specs.Prelude.{◌⊎◌, ◌&&◌, ◌||◌, nat_eq, not, IfSome}
use Rattle.std.specs.List.{list_all, list_any}
use Rattle.std.specs.Option.{option_eq}
use Rattle.std.proofs.lemmas.Bool.{and_parts, or_cases, eqb-true}
use Rattle.dia_book.specs.declared.DRule.{DRule}
use Rattle.dia_breaking_sites.proofs.Members.{IsIn}
use Rattle.dia_valid.specs.Valid.{is_wildcard}
use Rattle.dia_breaking_sites.specs.Sent.{forbids, lets_in_freely, say_nothing}

all_one : (p : DRule → Bool) (rules : List DRule) → list_all p rules ≡ true → (rule : DRule) → IsIn rule rules → p rule ≡ true
all_one p [] all rule i = absurd i
all_one p (r ∷ rules) all rule (inl same) = subst (λ (x : DRule). p x ≡ true) (let e : r ≡ rule = cc in e) (and_parts (p r) (list_all p rules) all).0
all_one p (r ∷ rules) all rule (inr i) = all_one p rules (and_parts (p r) (list_all p rules) all).1 rule i

at_most_none : (min : ℕ) (max : Option ℕ) → option_eq nat_eq max (Some 0) ≡ true → IfSome max (λ n. min ≤ n) → min ≡ 0
at_most_none min None is within = absurd (let e : false ≡ true = is in cc)
at_most_none min (Some n) is within = let none : n ≡ 0 = eqb-true n 0 is in omega (arith, none, within)

pub open_asks : (rules : List DRule) → say_nothing rules ≡ true → (rule : DRule) → IsIn rule rules → IfSome rule.max (λ max. rule.min ≤ max) → rule.min ≡ 0
open_asks rules silent rule i within =
    by (or_cases (lets_in_freely rule) (forbids rule) (all_one (λ r. lets_in_freely r || forbids r) rules (and_parts (list_any lets_in_freely rules) (list_all (λ r. lets_in_freely r || forbids r) rules) silent).1 rule i))
  where
    by : (lets_in_freely rule ≡ true) ⊎ (forbids rule ≡ true) → rule.min ≡ 0
    by (inl free) = eqb-true rule.min 0 (and_parts (is_wildcard rule) (nat_eq rule.min 0) (and_parts (is_wildcard rule && nat_eq rule.min 0) (not (forbids rule)) free).0).1
    by (inr none) = at_most_none rule.min rule.max none within
