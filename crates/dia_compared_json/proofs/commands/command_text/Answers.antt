use Rattle.std.proofs.lemmas.Result.{IfOk-weaker}
use Rattle.dia_book.specs.Dictionary.{plain_definition}
use Rattle.dia_compared_json.proofs.Texts.{command_recorded}
use Rattle.dia_compared_json.proofs.commands.command_text.Goals as goal

pub returns : goal.returns
returns c =
    IfOk-weaker c.format.result _ _
    (λ text is. command_recorded (plain_definition c.args.command.now) _ _ _ (rw c.as_str.ensures.value at c.in_ok-name.ensures) c.in_ok-selects.ensures is) c.format.ensures.ok
