-- No level of a definition, and none that has a key, is shorter than what is computed.
use Rattle.std.proofs.Common.{◌≡◌, ℕ, ◌≤◌, Bool, true, false, List, Option, Some, None, refl, sym, ap, arith}
use Rattle.std.specs.Prelude.{not, ◌&&◌}
use Rattle.dia_wire.specs.declared.Key.{Key}
use Rattle.dia_book.specs.declared.DRule.{DRule}
use Rattle.dia_book.specs.Keys.{same_key}
use Rattle.dia_book.specs.Dictionary.{AreRules}
use Rattle.dia_book.proofs.SameKeys.{same_key-refl, same_key-true}
use Rattle.dia_valid.specs.Valid.{Placed, is_listed}
use Rattle.dia_valid.specs.Rules.{rule_of, wildcard_of}
use Rattle.dia_valid.proofs.Members.{IsIn, in_contains, count_in}
use Rattle.dia_breaking_levels.specs.CountsAndRanks.{AreSound}
use Rattle.dia_breaking_levels.specs.LeastLevels.{total}
use Rattle.dia_breaking_levels.specs.LevelTests.{price, least_filler, least_length, once, length_once}
use Rattle.dia_breaking_levels.specs.Levels.{OtherIsShortest, IsWithinAll, IsWithinAllWith}
use Rattle.dia_breaking_levels.proofs.CountsAndRanks.{rules_sound}
use Rattle.dia_breaking_levels.proofs.FloorBounds.{base_within}
use Rattle.dia_breaking_levels.proofs.LevelBounds.{floor_least, listed_at_least_within}
use Rattle.dia_breaking_levels.proofs.LineBounds.{is_rule, no_rule}
use Rattle.dia_breaking_levels.proofs.OtherBounds.{other_at_least_within}

pub least_within : (listed other : Key → ℕ) (others : List Key) (a : List DRule) (n : ℕ) → AreRules a → n ≡ least_length listed other others a → OtherIsShortest other others a
    → IsWithinAll (price listed other a) a n
least_within listed other others a n are is shortest = λ keys placed.
    let low = base_within listed (least_filler other others a) a in
    let all = floor_least a listed other (least_filler other others a) keys (rules_sound a are) placed (λ q i none. shortest q none) in
    omega (arith, is, low, all)

once_within : (listed other : Key → ℕ) (others : List Key) (a : List DRule) (key : Key) (keys : List Key) (o : Option DRule) → AreSound a → Placed a keys → OtherIsShortest other others a
    → IsIn key keys → rule_of a key ≡ o
    → once listed other (least_length listed other others a) (least_filler other others a) key o (wildcard_of a) ≤ total (price listed other a) keys
once_within listed other others a key keys (Some r) sound placed shortest i e =
    let own = is_rule a key r e in
    listed_at_least_within a listed other (least_filler other others a) keys sound placed (λ q j none. shortest q none) (least_length listed other others a) r key 1
    (base_within listed (least_filler other others a) a) own.0 own.1
    (count_in (λ (q : Key). same_key q key) keys key i (same_key-refl key))
once_within listed other others a key keys None sound placed shortest i e =
    other_at_least_within a listed other (least_filler other others a) keys sound placed (λ q j none. shortest q none) (least_length listed other others a) (other key) 1 (λ q. same_key q key)
    (wildcard_of a) refl
    (base_within listed (least_filler other others a) a) (shortest key (no_rule a key e))
    (λ q j unlisted same. let own : other key ≡ other q = sym (ap other (same_key-true q key same)) in omega (arith, own)) (omega arith)
    (count_in (λ (q : Key). not (is_listed a q) && same_key q key) keys key i (both (is_listed a key) (same_key key key) (no_rule a key e) (same_key-refl key)))
  where
    both : (t u : Bool) → t ≡ false → u ≡ true → (not t && u) ≡ true
    both false u g h = h
    both true u g h = absurd (let f : true ≡ false = g in cc)

pub with_within : (listed other : Key → ℕ) (others : List Key) (a : List DRule) (key : Key) (n : ℕ) → AreRules a → n ≡ length_once listed other others a key → OtherIsShortest other others a
    → IsWithinAllWith (price listed other a) a key n
with_within listed other others a key n are is shortest = λ keys placed comes.
    let le = once_within listed other others a key keys (rule_of a key) (rules_sound a are) placed shortest (in_contains keys key comes) refl in
    omega (arith, is, le)
