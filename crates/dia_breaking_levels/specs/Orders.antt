-- Which of two keys comes first in a level, by one definition and by another (RFC 6733 section 3.2).
use Rattle.std.specs.Prelude.{◌≡◌, ℕ, ◌<◌, ◌≤◌, List, Some, slice_get}
use Rattle.dia_wire.specs.declared.Key.{Key}
use Rattle.dia_book.specs.declared.DRule.{DRule}
use Rattle.dia_valid.specs.Valid.{fixed_rules}
use Rattle.dia_valid.specs.Rules.{HasRule}
use Rattle.dia_breaking_levels.specs.CountsAndRanks.{rank}

-- one key precedes another
pub record OccursBefore (x y : Key) (keys : List Key) : Type 0 where
  pub early : ℕ
  pub late : ℕ
  pub following : early < late
  pub is_x : slice_get keys early ≡ Some x
  pub is_y : slice_get keys late ≡ Some y

-- by the one definition x may precede y, and by the other, where y is a fixed rule's key, it may not
pub record IsTurned (a b : List DRule) (x y : Key) : Type 0 where
  pub rule : DRule
  pub has_rule : HasRule (fixed_rules b) y rule
  pub first : rank (fixed_rules a) x ≤ rank (fixed_rules a) y
  pub second : rank (fixed_rules b) y < rank (fixed_rules b) x
