use Rattle.std.proofs.Common.{[], List, arith, subst}
use Rattle.std.proofs.lemmas.List.{take_all}
use Rattle.dia_book.specs.declared.DRule.{DRule}
use Rattle.dia_compat.specs.ReachedKeys.{ComesToAll, IsAllowed}
use Rattle.dia_compat.proofs.ReachedKeys.{all_none, listed_more}
use Rattle.dia_valid.proofs.Members.{in_contains}
use Rattle.dia_compat.proofs.proposing.reaching.Reached.come_to_listed.Goals as goal

pub loop-rule-init : goal.loop-rule-init
loop-rule-init g c = all_none c.args.sides.now (IsAllowed []) c.args.self.now (λ key h. in_contains [] h.0 h.1.0)

pub loop-rule-preserved : goal.loop-rule-preserved
loop-rule-preserved g c =
    listed_more c.args.sides.now c.args.rules.now c.loop-rule.rule-index _ c.args.self.now c.loop-rule.self c.come_to_allowed.new.self
    (omega arith) c.loop-rule.invariant c.in_ok-come_to_allowed.ensures

pub returns : goal.returns
returns g c =
    subst (λ (rules : List DRule). ComesToAll c.args.sides.now (IsAllowed rules) c.args.self.now c.loop-rule.self) (take_all c.loop-rule.rule-index c.args.rules.now c.loop-rule-test.false)
    c.loop-rule.invariant
