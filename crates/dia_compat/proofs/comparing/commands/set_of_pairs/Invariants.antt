use Rattle.std.proofs.Common.{◌≡◌, ℕ, List, map, take}
use Rattle.std.specs.List.{list_any}
use Rattle.dia_compat.specs.TableText.{plain_pair}
use Rattle.dia_compat.specs.PairTests.{plain_names, is_pair}
use Rattle.dia_compat.proofs.comparing.commands.set_of_pairs.Given as goal

abbrev pub invariant-loop-pair : goal.invariant-loop-pair
invariant-loop-pair l = (x y : List ℕ) → list_any (is_pair x y) (map plain_names l.set.keys) ≡ list_any (is_pair x y) (map plain_pair (take l.pair-index l.pairs))
