use Rattle.std.proofs.Common.{refl}
use Rattle.dia_compat.specs.Tests.{covered_rule}
use Rattle.dia_compat.specs.PairTests.{is_covered}
use Rattle.dia_compat.proofs.FilteredMembers.{all_more_at, all_stops_at}
use Rattle.dia_compat.proofs.comparing.keys.all_covered.Goals as goal

pub returns-then-not-rule_is_covered : goal.returns-then-not-rule_is_covered
returns-then-not-rule_is_covered g c =
    rw c.list-rule-items.ensures at (all_stops_at (covered_rule (is_covered c.args.cover.now)) c.list-rule-items.result.now c.loop-rule.rule-index _ _ c.rule_is_covered.result
    c.loop-rule-test.true refl c.rule_is_covered.ensures c.if-not-rule_is_covered.true)

pub loop-rule-preserved : goal.loop-rule-preserved
loop-rule-preserved g c =
    all_more_at (covered_rule (is_covered c.args.cover.now)) c.list-rule-items.result.now c.loop-rule.rule-index _ _ c.rule_is_covered.result
    c.loop-rule-test.true refl c.rule_is_covered.ensures c.if-not-rule_is_covered.false
    c.loop-rule.invariant
