use Rattle.std.proofs.Common.{◌≡◌, take}
use Rattle.std.specs.List.{filter_map}
use Rattle.dia_lint.specs.Ways.{exit_by, side_of}
use Rattle.dia_lint.proofs.reached.exits_by.Given as goal

abbrev pub invariant-loop-rule : goal.invariant-loop-rule
invariant-loop-rule g l = l.listed.items ≡ filter_map (exit_by (side_of g.B.Book.meaning l.lengths) l.cost) (take l.rule-index l.rules)
