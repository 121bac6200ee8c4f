use Rattle.std.proofs.lemmas.Result.{IfOk-weaker}
use Rattle.dia_data.specs.Plain.{plain_format}
use Rattle.dia_compared_json.proofs.Texts.{taken_recorded}
use Rattle.dia_compared_json.proofs.declarations.taken_text.Goals as goal

pub returns : goal.returns
returns c =
    IfOk-weaker c.format.result _ _
    (λ text is. taken_recorded (plain_format c.args.format.now) c.args.rule _ _ _ _ c.word-word.ensures c.word-m.ensures c.in_ok-values.ensures is)
    c.format.ensures.ok
