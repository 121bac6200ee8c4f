-- The normal form of the rules of a definition as numbers, by which `lint` compares definitions.
use Rattle.std.specs.Prelude.{◌≡◌, ℕ, ◌+◌, ◌<◌, if◌then◌else◌, List, map, Option, Some, None, option_and_then, option_to_list, slice_get, Contains, IsTrue}
use Rattle.std.specs.Option.{option_map}
use Rattle.std.specs.BTreeSet.{BTreeSet, IsOrdered, contains}
use Rattle.std.specs.Ordering.{nat_cmp, ordering_then}
use Rattle.std.specs.declared.cmp.Ordering.{Ordering}
use Rattle.dia_wire.specs.declared.Key.{Key}
use Rattle.dia_book.specs.declared.DRule.{DRule}
use Rattle.dia_lint.specs.declared.normal.Normal.{Normal}
use Rattle.dia_lint.specs.LevelParts.{Parts, is_any, is_first, parts_of, settled}

-- code and vendor; the least count, and one more than the greatest, or 0 where there is none
abbrev pub key_numbers : Option Key → ℕ × ℕ
key_numbers None = (0, 0)
key_numbers (Some key) = (key.code, key.vendor)

abbrev pub most_number : Option ℕ → ℕ
most_number None = 0
most_number (Some max) = max + 1

abbrev pub numbers : DRule → ℕ × ℕ
numbers r = (r.min, most_number r.max)

abbrev pub counts_of : DRule → (ℕ × ℕ) × (ℕ × ℕ)
counts_of r = (key_numbers r.key, numbers r)

abbrev pub pairs_cmp : ℕ × ℕ → ℕ × ℕ → Ordering
pairs_cmp p q = ordering_then (nat_cmp p.0 q.0) (nat_cmp p.1 q.1)

abbrev pub counts_cmp : (ℕ × ℕ) × (ℕ × ℕ) → (ℕ × ℕ) × (ℕ × ℕ) → Ordering
counts_cmp p q = ordering_then (pairs_cmp p.0 q.0) (pairs_cmp p.1 q.1)

-- ---- rule by rule

abbrev pub first_counts : DRule → Option ((ℕ × ℕ) × (ℕ × ℕ))
first_counts r = if is_first r then Some (counts_of r) else None

abbrev pub any_counts : Option DRule → DRule → Option ((ℕ × ℕ) × (ℕ × ℕ))
any_counts others r = if is_any others r then Some (counts_of r) else None

abbrev pub first_part : List DRule → ℕ → List ((ℕ × ℕ) × (ℕ × ℕ))
first_part rules i = option_to_list (option_and_then first_counts (slice_get rules i))

-- one of the first rules follows in any order with these counts
abbrev pub HasAny : List DRule → Option DRule → ℕ → (ℕ × ℕ) × (ℕ × ℕ) → Type 0
HasAny rules others i q = (j : ℕ) × (j < i) × (option_and_then (any_counts others) (slice_get rules j) ≡ Some q)

-- ---- whole definitions

-- the set has the counts of these rules
pub record AreCountsOf (rules : List DRule) (set : BTreeSet ((ℕ × ℕ) × (ℕ × ℕ))) : Type 0 where
  pub ordered : IsOrdered counts_cmp set
  pub to : (q : (ℕ × ℕ) × (ℕ × ℕ)) → IsTrue (contains counts_cmp set q) → (r : DRule) × Contains rules r × (counts_of r ≡ q)
  pub from : (r : DRule) → Contains rules r → IsTrue (contains counts_cmp set (counts_of r))

pub record HasParts (p : Parts) (n : Normal) : Type 0 where
  pub firsts : n.firsts.items ≡ map counts_of p.firsts
  pub anys : AreCountsOf p.anys n.anys
  pub others : n.others ≡ option_map numbers p.others

abbrev pub IsNormalOf : List DRule → Normal → Type 0
IsNormalOf rules n = HasParts (settled (parts_of rules)) n

-- the numbers of both are equal
abbrev pub AreEqual : Normal → Normal → Type 0
AreEqual n m = (n.firsts.items ≡ m.firsts.items) × (n.others ≡ m.others) × (n.anys.keys ≡ m.anys.keys)
