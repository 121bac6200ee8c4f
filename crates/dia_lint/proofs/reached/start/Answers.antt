use Rattle.std.proofs.Common.{ap, arith}
use Rattle.dia_valid.specs.Rules.{rules_in}
use Rattle.dia_breaking_levels.specs.LevelTests.{least_filler}
use Rattle.dia_lint.specs.declared.levels.LevelCost.{LevelCost}
use Rattle.dia_lint.specs.Ways.{listed_in, other_in, side_of}
use Rattle.dia_lint.proofs.FoundWays.{one_start_more}
use Rattle.dia_lint.proofs.WayCosts.{base_most}
use Rattle.dia_lint.proofs.reached.start.Goals as goal

pub overflow_add-base : goal.overflow_add-base
overflow_add-base g c =
    let s = side_of g.B.Book.meaning c.args.lengths.now in
    let rules = rules_in s.book c.command_at.result in
    let most = base_most (listed_in s) (least_filler (other_in s) s.others rules) rules in
    omega (arith, most, c.of-base.ensures.base)

pub loop-index-preserved : goal.loop-index-preserved
loop-index-preserved g c =
    one_start_more (side_of g.B.Book.meaning c.args.lengths.now) c.loop-index.index c.entries-entries.result c.of-base.result.base c.command_at.result c.loop-index.listed.items _ c.loop-index.invariant
    c.in_ok-push.ensures.items c.entries-entries.ensures.count (ap (λ (cost : LevelCost). cost.base) c.of-base.ensures.exact) c.command_at.ensures.number
