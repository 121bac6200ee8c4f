use Rattle.std.proofs.lemmas.Result.{IfOk-weaker}
use Rattle.dia_compared_json.proofs.Texts.{rule_recorded}
use Rattle.dia_compared_json.proofs.rules.rule_text.Goals as goal

pub returns : goal.returns
returns g c =
    IfOk-weaker c.format.result _ _
    (λ text is. rule_recorded (g.B.Book.meaning c.args.book.now) c.args.number c.args.rule.now c.is_fixed-fixed.result _ _ _ _ c.is_fixed-fixed.ensures c.slot_name.ensures c.in_ok-avp.ensures
    c.in_ok-max.ensures is) c.format.ensures.ok
