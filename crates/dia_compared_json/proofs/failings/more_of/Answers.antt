use Rattle.std.proofs.lemmas.Result.{IfOk-weaker}
use Rattle.dia_compared_json.specs.Parts.{part_value}
use Rattle.dia_compared_json.proofs.Texts.{more_recorded}
use Rattle.dia_compared_json.proofs.failings.more_of.Goals as goal

pub returns : goal.returns
returns g c =
    IfOk-weaker c.format.result _ _
    (λ text is. more_recorded c.args.name.now (part_value c.args.side.now c.args.part) _ _ _ c.in_ok-name.ensures c.in_ok-value.ensures is) c.format.ensures.ok
