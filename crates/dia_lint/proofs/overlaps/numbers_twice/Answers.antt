use Rattle.std.proofs.Common.{get_or}
use Rattle.std.proofs.lemmas.Option.{slice_get-get_or}
use Rattle.dia_lint.proofs.JoinedRanges.{before_more, twice_more}
use Rattle.dia_lint.proofs.overlaps.numbers_twice.Goals as goal

pub loop-index-preserved : goal.loop-index-preserved
loop-index-preserved c =
    let list = c.args.list.now in
    let i = c.loop-index.index in
    let range = get_or list i (0, 0) in
    let at = slice_get-get_or list i (0, 0) c.loop-index-test.true in
    let old = c.loop-index.invariant in (
      twice_more list i range.0 range.1 c.loop-index.before c.loop-index.numbers.items c.push.new.self.items c.least_within.result at old.0 old.2 c.least_within.ensures c.in_ok-push.ensures.items,
      c.in_ok-add.ensures.apart,
      before_more list i range.0 range.1 c.loop-index.before c.add.new.ranges at old.2 c.in_ok-add.ensures.gains,
    )
