use Rattle.std.proofs.Common.{refl}
use Rattle.dia_compat.specs.Tests.{common_rule}
use Rattle.dia_compat.proofs.FilteredMembers.{all_more_at, all_stops_at}
use Rattle.dia_compat.proofs.comparing.keys.common_within.Goals as goal

pub returns-then-not-is_common_within : goal.returns-then-not-is_common_within
returns-then-not-is_common_within g c =
    rw c.list-rule-items.ensures at (all_stops_at (common_rule c.args.b.now) c.list-rule-items.result.now c.loop-rule.rule-index _ _ c.is_common_within.result
    c.loop-rule-test.true refl c.is_common_within.ensures c.if-not-is_common_within.true)

pub loop-rule-preserved : goal.loop-rule-preserved
loop-rule-preserved g c =
    all_more_at (common_rule c.args.b.now) c.list-rule-items.result.now c.loop-rule.rule-index _ _ c.is_common_within.result
    c.loop-rule-test.true refl c.is_common_within.ensures c.if-not-is_common_within.false
    c.loop-rule.invariant
