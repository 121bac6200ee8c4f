-- How the AVPs of a level break the rules (RFC 6733 section 3.2).
use Rattle.std.specs.Prelude.{◌≡◌, ℕ, ◌<◌, false, List, Some, slice_get, Contains}
use Rattle.dia_wire.specs.declared.Key.{Key}
use Rattle.dia_book.specs.declared.DRule.{DRule}
use Rattle.dia_valid.specs.Valid.{fixed_rules, is_listed, has_wildcard}
use Rattle.dia_valid.specs.Rules.{HasRule, HasWildcard}
use Rattle.dia_breaking_levels.specs.CountsAndRanks.{times, strangers, rank}

-- a fixed rule's key follows one of a greater rank
pub record IsLate (fixed : List DRule) (keys : List Key) : Type 0 where
  pub early : ℕ
  pub late : ℕ
  pub x : Key
  pub y : Key
  pub rule : DRule
  pub following : early < late
  pub is_x : slice_get keys early ≡ Some x
  pub is_y : slice_get keys late ≡ Some y
  pub has_rule : HasRule fixed y rule
  pub greater : rank fixed y < rank fixed x

-- too few or too many of a rule's key, one that is not allowed, too few or too many by the wildcard, or one too late
pub data Breach (rules : List DRule) (keys : List Key) : Type 0 where
  Few : (key : Key) (rule : DRule) (is_rule : HasRule rules key rule) (below : times key keys < rule.min) → Breach rules keys
  Many : (key : Key) (rule : DRule) (max : ℕ) (is_rule : HasRule rules key rule) (is_max : rule.max ≡ Some max) (above : max < times key keys) → Breach rules keys
  Not_allowed : (key : Key) (comes : Contains keys key) (unlisted : is_listed rules key ≡ false) (no_wildcard : has_wildcard rules ≡ false) → Breach rules keys
  Few_others : (wild : DRule) (is_wild : HasWildcard rules wild) (below : strangers rules keys < wild.min) → Breach rules keys
  Many_others : (wild : DRule) (max : ℕ) (is_wild : HasWildcard rules wild) (is_max : wild.max ≡ Some max) (above : max < strangers rules keys) → Breach rules keys
  Late : (late : IsLate (fixed_rules rules) keys) → Breach rules keys
