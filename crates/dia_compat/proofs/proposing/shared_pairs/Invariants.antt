use Rattle.std.proofs.Common.{◌≡◌, map, take}
use Rattle.std.specs.List.{filter_map}
use Rattle.dia_compat.specs.TableText.{plain_pair}
use Rattle.dia_compat.specs.NamedCommands.{shared_pair}
use Rattle.dia_compat.proofs.proposing.shared_pairs.Given as goal

abbrev pub invariant-loop-index : goal.invariant-loop-index
invariant-loop-index g l = map plain_pair l.pairs.items ≡ filter_map (shared_pair l.sides.second l.reached) (take l.index l.sides.first.entries)
