use Rattle.std.specs.Prelude.{Some}
use Rattle.dia_lint.proofs.JoinedRanges.{differ, gains_joined}
use Rattle.dia_lint.proofs.overlaps.add.Goals as goal

pub returns-in_ok-insert-clause-gains : goal.returns-in_ok-insert-clause-gains
returns-in_ok-insert-clause-gains c =
    let taken = c.take_overlapping-first in
    gains_joined c.args.ranges.now (c.args.low, c.args.high) taken.new.ranges c.insert.new.self taken.result.0 taken.result.1 taken.ensures.joined taken.ensures.clear
    (differ taken.new.ranges c.insert.new.self taken.result.1 (Some taken.result.0) c.in_ok-insert.ensures.updates)
