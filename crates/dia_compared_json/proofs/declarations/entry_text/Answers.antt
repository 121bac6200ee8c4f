use Rattle.std.specs.Prelude.{slice_get}
use Rattle.std.proofs.lemmas.Result.{IfOk-weaker}
use Rattle.dia_data.specs.Plain.{plain_format}
use Rattle.dia_compared_json.proofs.Texts.{declared_recorded}
use Rattle.dia_compared_json.proofs.declarations.entry_text.Goals as goal

pub returns : goal.returns
returns g c =
    IfOk-weaker c.format.result _ _
    (λ text is. declared_recorded (slice_get (g.B.Book.meaning c.args.book.now).entries c.args.entry) c.entry_name.result.now c.entry_key-key.result (plain_format c.format-format.result.now)
    c.rule.result _ _ _ c.entry_name.ensures c.entry_key-key.ensures c.format-format.ensures c.rule.ensures c.in_ok-name.ensures c.in_ok-taken.ensures is) c.format.ensures.ok
