use Rattle.std.proofs.lemmas.Result.{on_ok_weaker}
use Rattle.std.specs.Fmt.{decimal}
use Rattle.dia_text.specs.LineTexts.{field_words, code_start}
use Rattle.dia_text.proofs.Pushed.{code_pushed}
use Rattle.dia_text.proofs.header_lines.push_by_code.Goals as goal

pub returns : goal.returns
returns c =
    on_ok_weaker c.push_fields.result
    (λ e. code_pushed _ _ _ _ (decimal c.args.header.now.code) (field_words c.args.header.now (code_start c.args.header.now)) c.in_ok-push_str.ensures.bytes
    (rw c.from.ensures at c.in_ok-push_decimal.ensures) e) c.push_fields.ensures
