use Rattle.std.proofs.Common.{refl}
use Rattle.dia_valid.specs.Valid.{is_listed}
use Rattle.dia_compat.specs.Tests.{of_key}
use Rattle.dia_compat.proofs.FilteredMembers.{all_more_at, all_stops_at}
use Rattle.dia_compat.proofs.comparing.wildcards.lists_all.Goals as goal

pub returns-then-not-lists : goal.returns-then-not-lists
returns-then-not-lists g c =
    rw c.list-rule-items.ensures at (all_stops_at (of_key (is_listed c.args.a.now)) c.list-rule-items.result.now c.loop-rule.rule-index _ _ c.lists.result
    c.loop-rule-test.true refl c.lists.ensures c.if-not-lists.true)

pub loop-rule-preserved : goal.loop-rule-preserved
loop-rule-preserved g c =
    all_more_at (of_key (is_listed c.args.a.now)) c.list-rule-items.result.now c.loop-rule.rule-index _ _ c.lists.result
    c.loop-rule-test.true refl c.lists.ensures c.if-not-lists.false
    c.loop-rule.invariant
