use Rattle.std.proofs.lemmas.Result.{on_ok_weaker}
use Rattle.dia_differences.proofs.RuleLines.{both_rules}
use Rattle.dia_differences.proofs.rules.push_rules.Goals as goal

pub returns : goal.returns
returns g c =
    on_ok_weaker c.push_other_rules.result
    (both_rules (g.A.Book.meaning c.args.a.now) (g.B.Book.meaning c.args.b.now) c.args.partners.now c.args.own c.args.other c.deref.result.now c.deref-2.result.now c.args.lines.now.items c.push_own_rules.new.lines.items
    c.push_other_rules.new.lines.items c.deref.ensures.value c.deref-2.ensures.value c.in_ok-push_own_rules.ensures)
    c.push_other_rules.ensures
