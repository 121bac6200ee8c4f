-- Requests by numbers that rise, and the sets of numbers by which they are found.
use Rattle.std.specs.Prelude.{◌≡◌, ℕ, ◌<◌, ◌^◌, Bool, false, List, Option, option_map}
use Rattle.std.specs.BTreeMap.{is_at}
use Rattle.std.specs.BTreeSet.{contains}
use Rattle.std.specs.List.{All, find}
use Rattle.std.specs.List.Sorted.{IsStrictlySortedBy}
use Rattle.std.specs.Map.{keys_of, lookup, remove_entry}
use Rattle.std.specs.Option.{option_map_or}
use Rattle.std.specs.Ordering.{nat_cmp, ordering_then}
use Rattle.std.specs.declared.cmp.Ordering.{Ordering}
use Rattle.dia_follow.specs.declared.request.Request.{Request}
use Rattle.dia_follow.specs.declared.waiting.numbers.Numbers.{Numbers}
use Rattle.dia_follow.specs.Waits.{has_hop, has_ids, is_dwr, or_else}

-- ---- requests by their numbers

abbrev pub Rises : {X : Type 0} → List (ℕ × X) → Type 0
Rises es = IsStrictlySortedBy nat_cmp (keys_of es)

-- each number is below this one
abbrev pub AreBelow : {X : Type 0} → List (ℕ × X) → ℕ → Type 0
AreBelow es n = All (λ k. k < n) (keys_of es)

-- the request of a number
abbrev pub numbered : {X : Type 0} → List (ℕ × X) → ℕ → Option X
numbered es n = lookup (is_at (nat_cmp n)) es

-- the others
abbrev pub without_number : {X : Type 0} → List (ℕ × X) → ℕ → List (ℕ × X)
without_number es n = remove_entry (is_at (nat_cmp n)) es

-- the request of the number passes
abbrev pub passes : {X : Type 0} → (X → Bool) → List (ℕ × X) → ℕ → Bool
passes test es n = option_map_or test (numbered es n) false

-- the number of the first that passes
abbrev pub first_number : {X : Type 0} → (X → Bool) → List (ℕ × X) → Option ℕ
first_number test es = option_map (λ e. e.0) (find (λ e. test e.1) es)

-- the number of what an answer with these identifiers answers
abbrev pub answered_number : List (ℕ × Request) → ℕ → ℕ → Option ℕ
answered_number es hop e2e = or_else (first_number (has_ids hop e2e) es) (first_number (has_hop hop) es)

-- ---- the sets

abbrev pub pair_cmp : ℕ × ℕ → ℕ × ℕ → Ordering
pair_cmp p q = ordering_then (nat_cmp p.0 q.0) (nat_cmp p.1 q.1)

abbrev pub triple_cmp : ℕ × ℕ × ℕ → ℕ × ℕ × ℕ → Ordering
triple_cmp p q = ordering_then (ordering_then (nat_cmp p.0 q.0) (nat_cmp p.1 q.1)) (nat_cmp p.2 q.2)

-- the sets have the numbers of exactly the requests that pass
pub record AreListed (sets : Numbers) (es : List (ℕ × Request)) : Type 0 where
  pub rise : Rises es
  pub fit : AreBelow es (2 ^ 64)
  pub by_hop : (hop n : ℕ) → contains pair_cmp sets.by_hop (hop, n) ≡ passes (has_hop hop) es n
  pub by_ids : (hop e2e n : ℕ) → contains triple_cmp sets.by_ids (hop, e2e, n) ≡ passes (has_ids hop e2e) es n
  pub watchdogs : (n : ℕ) → contains nat_cmp sets.watchdogs n ≡ passes is_dwr es n
