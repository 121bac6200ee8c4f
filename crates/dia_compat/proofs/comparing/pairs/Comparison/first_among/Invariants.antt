use Rattle.std.proofs.Common.{◌≡◌, ◌<◌, ℕ, List, Some, map, take}
use Rattle.std.specs.Prelude.{slice_get}
use Rattle.std.specs.List.{list_any}
use Rattle.dia_compat.specs.declared.checking.Test.{Test}
use Rattle.dia_compat.specs.TableText.{plain_pair}
use Rattle.dia_compat.specs.PairTests.{NamePair, plain_names, is_pair}
use Rattle.dia_compat.specs.FirstFailures.{PairTest}
use Rattle.dia_compat.proofs.comparing.pairs.Comparison.first_among.Given as goal

abbrev pub invariant-loop-place : goal.invariant-loop-place
invariant-loop-place g l = record {
  seen : (x y : List ℕ) → list_any (is_pair x y) (map plain_names l.seen.keys) ≡ list_any (is_pair x y) (map plain_pair (take l.place l.pairs));
  passed : (k : ℕ) (p : NamePair) (t : Test) → k < l.place → slice_get (map plain_pair l.pairs) k ≡ Some p → PairTest l.self l.kind p t;
}
