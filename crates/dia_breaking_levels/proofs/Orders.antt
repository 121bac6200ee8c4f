-- Where one definition places the keys and a key comes too late by the other, the ranks of two keys are turned.
use Rattle.std.proofs.Common.{◌≢◌, ◌≤◌, List, ap, arith}
use Rattle.dia_wire.specs.declared.Key.{Key}
use Rattle.dia_book.specs.declared.DRule.{DRule}
use Rattle.dia_valid.specs.Valid.{Placed, fixed_rules}
use Rattle.dia_breaking_levels.specs.CountsAndRanks.{AreSound, rank}
use Rattle.dia_breaking_levels.specs.Breaches.{IsLate}
use Rattle.dia_breaking_levels.specs.Orders.{OccursBefore, IsTurned}
use Rattle.dia_breaking_levels.proofs.CountsAndRanks.{placed_order}

-- a key that precedes another ranks no higher
pub before_ranks : (rules : List DRule) (keys : List Key) (x y : Key) → AreSound rules → Placed rules keys → OccursBefore x y keys → rank (fixed_rules rules) x ≤ rank (fixed_rules rules) y
before_ranks rules keys x y sound placed b = placed_order rules keys b.early b.late x y sound placed b.is_x b.is_y b.following

pub turned_apart : (a b : List DRule) (x y : Key) → IsTurned a b x y → x ≢ y
turned_apart a b x y t same =
    let lt = t.second in
    let ranks = ap (rank (fixed_rules b)) same in
    absurd (omega (arith, lt, ranks))

late_before : (b : List DRule) (keys : List Key) (l : IsLate (fixed_rules b) keys) → OccursBefore l.x l.y keys
late_before b keys l = record { early = l.early; late = l.late; following = l.following; is_x = l.is_x; is_y = l.is_y }

-- the two keys of which one is too late by b are turned, where a places the keys
pub late_turned : (a b : List DRule) (keys : List Key) → AreSound a → Placed a keys → (l : IsLate (fixed_rules b) keys) → IsTurned a b l.x l.y
late_turned a b keys sound placed l = record { rule = l.rule; has_rule = l.has_rule; first = before_ranks a keys l.x l.y sound placed (late_before b keys l); second = l.greater }
