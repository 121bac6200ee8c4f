use Rattle.std.proofs.Common.{refl}
use Rattle.dia_valid.specs.Valid.{has_wildcard}
use Rattle.dia_compat.specs.Tests.{let_in_rule}
use Rattle.dia_compat.proofs.FilteredMembers.{all_more_at, all_stops_at}
use Rattle.dia_compat.proofs.comparing.keys.let_in.Goals as goal

pub returns-then-not-is_let_in : goal.returns-then-not-is_let_in
returns-then-not-is_let_in g c =
    rw c.list-rule-items.ensures at (all_stops_at (let_in_rule c.args.b.now (has_wildcard c.args.b.now)) c.list-rule-items.result.now c.loop-rule.rule-index _ _ c.is_let_in.result
    c.loop-rule-test.true refl (rw c.has_wildcard-wild.ensures at c.is_let_in.ensures) c.if-not-is_let_in.true)

pub loop-rule-preserved : goal.loop-rule-preserved
loop-rule-preserved g c =
    all_more_at (let_in_rule c.args.b.now (has_wildcard c.args.b.now)) c.list-rule-items.result.now c.loop-rule.rule-index _ _ c.is_let_in.result
    c.loop-rule-test.true refl (rw c.has_wildcard-wild.ensures at c.is_let_in.ensures) c.if-not-is_let_in.false
    c.loop-rule.invariant
