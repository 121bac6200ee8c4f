use Rattle.std.proofs.Common.{ap}
use Rattle.dia_breaking_ways.specs.Walks.{plain_exits}
use Rattle.dia_lint.specs.declared.levels.LevelCost.{LevelCost}
use Rattle.dia_lint.specs.Ways.{side_of}
use Rattle.dia_lint.proofs.FoundWays.{command_found}
use Rattle.dia_lint.proofs.reached.command_node.Goals as goal

pub returns : goal.returns
returns g c =
    command_found (side_of g.B.Book.meaning c.args.lengths.now) c.args.def c.of-least.result.base (plain_exits c.in_ok-exits.exits) (ap (λ (cost : LevelCost). cost.base) c.of-least.ensures.exact)
    c.in_ok-exits.ensures
