use Rattle.std.proofs.Common.{refl}
use Rattle.dia_compat.specs.Tests.{may_come, own_rule}
use Rattle.dia_valid.specs.Rules.{wildcard_of}
use Rattle.dia_compat.proofs.FilteredMembers.{all_more_at, all_stops_at}
use Rattle.dia_compat.proofs.comparing.keys.own_fit.Goals as goal

pub returns-then-not-own_fits : goal.returns-then-not-own_fits
returns-then-not-own_fits g c =
    rw c.list-rule-items.ensures at (all_stops_at (own_rule (may_come c.args.sides.now) c.args.a.now (wildcard_of c.args.a.now)) c.list-rule-items.result.now
    c.loop-rule.rule-index _ _ c.own_fits.result c.loop-rule-test.true refl (rw c.wildcard-wildcard.ensures at c.own_fits.ensures) c.if-not-own_fits.true)

pub loop-rule-preserved : goal.loop-rule-preserved
loop-rule-preserved g c =
    all_more_at (own_rule (may_come c.args.sides.now) c.args.a.now (wildcard_of c.args.a.now)) c.list-rule-items.result.now
    c.loop-rule.rule-index _ _ c.own_fits.result c.loop-rule-test.true refl (rw c.wildcard-wildcard.ensures at c.own_fits.ensures) c.if-not-own_fits.false
    c.loop-rule.invariant
