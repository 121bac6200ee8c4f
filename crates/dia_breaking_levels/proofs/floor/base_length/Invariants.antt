use Rattle.std.proofs.Common.{◌≡◌, take}
use Rattle.dia_breaking_levels.specs.LevelTests.{base_length}
use Rattle.dia_breaking_levels.proofs.floor.base_length.Given as goal

abbrev pub invariant-loop-rule : goal.invariant-loop-rule
invariant-loop-rule g l = l.sum ≡ base_length (g.C.Costs.listed_length l.costs) l.filler (take l.rule-index l.rules)
