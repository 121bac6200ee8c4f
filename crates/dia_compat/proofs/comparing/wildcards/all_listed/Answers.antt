use Rattle.std.proofs.Common.{refl}
use Rattle.dia_compat.specs.Tests.{listed_rule}
use Rattle.dia_compat.proofs.FilteredMembers.{all_more_at, all_stops_at}
use Rattle.dia_compat.proofs.comparing.wildcards.all_listed.Goals as goal

pub returns-then-not-is_listed : goal.returns-then-not-is_listed
returns-then-not-is_listed g c =
    rw c.list-rule-items.ensures at (all_stops_at (listed_rule c.args.b.now) c.list-rule-items.result.now c.loop-rule.rule-index _ _ c.is_listed.result
    c.loop-rule-test.true refl c.is_listed.ensures c.if-not-is_listed.true)

pub loop-rule-preserved : goal.loop-rule-preserved
loop-rule-preserved g c =
    all_more_at (listed_rule c.args.b.now) c.list-rule-items.result.now c.loop-rule.rule-index _ _ c.is_listed.result
    c.loop-rule-test.true refl c.is_listed.ensures c.if-not-is_listed.false
    c.loop-rule.invariant
