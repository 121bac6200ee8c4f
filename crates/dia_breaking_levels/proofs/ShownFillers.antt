-- Which keys fill the least counts of wildcards in the levels that are written for lines.
use Rattle.std.proofs.Common.{◌≡◌, ℕ, Bool, true, false, List, Option, Some, None, refl, sym, ap, ◌∙◌, arith, inl, inr}
use Rattle.std.specs.Prelude.{◌⊎◌, not, nat_le, nat_lt, ◌<◌, ◌&&◌, ◌||◌, ◌==◌, find, option_and_then, if◌then◌else◌}
use Rattle.std.specs.Option.{option_eq, option_map_or}
use Rattle.std.proofs.lemmas.Bool.{eqb-true, ltb-true}
use Rattle.std.proofs.lemmas.Option.{none-some}
use Rattle.dia_wire.specs.declared.Key.{Key}
use Rattle.dia_book.specs.Keys.{same_key}
use Rattle.dia_book.specs.declared.DRule.{DRule}
use Rattle.dia_book.proofs.Members.{at_find}
use Rattle.dia_valid.specs.Valid.{is_listed}
use Rattle.dia_valid.proofs.Members.{in_at}
use Rattle.dia_valid.proofs.RulesOfKeys.{is_listed_by}
use Rattle.dia_breaking_levels.specs.Chosen.{Reads, cheapest_key, inner_first, inner_key, next_key, outer_key, reads_between}
use Rattle.dia_breaking_levels.specs.Exact.{first_inner, least_inner}
use Rattle.dia_breaking_levels.specs.LevelTests.{too_long, capped, inner_length, is_outside}

pub both_false : (t u : Bool) → (not t && not u) ≡ true → (t ≡ false) × (u ≡ false)
both_false false false e = (refl, refl)
both_false true u e = absurd (let f : false ≡ true = e in cc)
both_false false true e = absurd (let f : false ≡ true = e in cc)

module _ (listed other : Key → ℕ) (keys : List Key) (a b : List DRule) where
  abbrev r : Reads
  r = reads_between a b listed other keys

  -- a key that the second definition lists, found by what its AVP takes
  inner_found : (except : Option Key) (n : ℕ) (k : Key) → n < too_long → option_and_then (λ rule. rule.key) (find (λ rule. inner_length other a except rule == n) b) ≡ Some k
      → (is_listed a k ≡ false) × (is_listed b k ≡ true) × (option_eq same_key except (Some k) ≡ false)
  inner_found except n k short is = by (find (λ rule. inner_length other a except rule == n) b) refl is
    where
      tests : (t u : Bool) (m : ℕ) → (if t || u then too_long else m) ≡ n → (t ≡ false) × (u ≡ false)
      tests true u m e = absurd (omega (arith, e, short))
      tests false true m e = absurd (omega (arith, e, short))
      tests false false m e = (refl, refl)

      by : (o : Option DRule) → find (λ rule. inner_length other a except rule == n) b ≡ o → option_and_then (λ rule. rule.key) o ≡ Some k
          → (is_listed a k ≡ false) × (is_listed b k ≡ true) × (option_eq same_key except (Some k) ≡ false)
      by None e h = absurd (none-some k h)
      by (Some rule) e h =
          let found = at_find (λ (s : DRule). inner_length other a except s == n) b rule e in
          let own : inner_length other a except rule ≡ n = eqb-true (inner_length other a except rule) n found.2 in
          let is_length : inner_length other a except rule ≡ (if is_listed a k || option_eq same_key except (Some k) then too_long else capped (other k)) =
          ap (λ (o : Option Key). option_map_or (λ key. if is_listed a key || option_eq same_key except (Some key) then too_long else capped (other key)) o too_long) h in
          let parts = tests (is_listed a k) (option_eq same_key except (Some k)) (capped (other k)) (sym is_length ∙ own) in
          (parts.0, is_listed_by b k rule (in_at b found.0 rule found.1) h, parts.1)

  pub outer_found : (k : Key) → outer_key r ≡ Some k → (is_listed a k ≡ false) × (is_listed b k ≡ false)
  outer_found k is = let found = at_find (is_outside a b) keys k is in both_false (is_listed a k) (is_listed b k) found.2

  pub inner_first_found : (k : Key) → inner_first r ≡ Some k → (is_listed a k ≡ false) × (is_listed b k ≡ true) × (first_inner other a b ≡ Some k)
  inner_first_found k is = by (nat_lt (least_inner other a b) too_long) refl is
    where
      by : (t : Bool) → nat_lt (least_inner other a b) too_long ≡ t → (if t then first_inner other a b else None) ≡ Some k
          → (is_listed a k ≡ false) × (is_listed b k ≡ true) × (first_inner other a b ≡ Some k)
      by true e h = let found = inner_found None (least_inner other a b) k (ltb-true (least_inner other a b) too_long e) h in (found.0, found.1, h)
      by false e h = absurd (none-some k h)

  -- the cheapest is one of the two
  pub cheapest_found : (k : Key) → cheapest_key r ≡ Some k
      → ((is_listed a k ≡ false) × (is_listed b k ≡ true) × (first_inner other a b ≡ Some k)) ⊎ ((is_listed a k ≡ false) × (is_listed b k ≡ false))
  cheapest_found k is = by (nat_le r.floor.inner r.floor.outer) is
    where
      by : (t : Bool) → (if t then inner_first r else outer_key r) ≡ Some k
          → ((is_listed a k ≡ false) × (is_listed b k ≡ true) × (first_inner other a b ≡ Some k)) ⊎ ((is_listed a k ≡ false) × (is_listed b k ≡ false))
      by true h = inl (inner_first_found k h)
      by false h = inr (outer_found k h)

  pub cheapest_unlisted : (k : Key) → cheapest_key r ≡ Some k → is_listed a k ≡ false
  cheapest_unlisted k is = by (cheapest_found k is)
    where
      by : ((is_listed a k ≡ false) × (is_listed b k ≡ true) × (first_inner other a b ≡ Some k)) ⊎ ((is_listed a k ≡ false) × (is_listed b k ≡ false)) → is_listed a k ≡ false
      by (inl found) = found.0
      by (inr found) = found.0

  -- the next one isn't the first that the second definition lists
  pub next_found : (k : Key) → next_key r ≡ Some k → (option_eq same_key (first_inner other a b) (Some k) ≡ false) ⊎ (is_listed b k ≡ false)
  next_found k is = by (nat_le r.floor.second r.floor.outer) is
    where
      short : (t : Bool) → nat_lt r.floor.second too_long ≡ t
          → (if t then option_and_then (λ rule. rule.key) (find (λ rule. inner_length other a (first_inner other a b) rule == r.floor.second) b) else None) ≡ Some k
          → option_eq same_key (first_inner other a b) (Some k) ≡ false
      short true e h = (inner_found (first_inner other a b) r.floor.second k (ltb-true r.floor.second too_long e) h).2
      short false e h = absurd (none-some k h)

      by : (t : Bool) → (if t then inner_key r (first_inner other a b) r.floor.second else outer_key r) ≡ Some k
          → (option_eq same_key (first_inner other a b) (Some k) ≡ false) ⊎ (is_listed b k ≡ false)
      by true h = inl (short (nat_lt r.floor.second too_long) refl h)
      by false h = inr (outer_found k h).1
