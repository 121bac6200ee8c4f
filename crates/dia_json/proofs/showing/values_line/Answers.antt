use Rattle.std.proofs.Common.{◌∙◌, sym}
use Rattle.std.proofs.lemmas.Result.{IfOk-weaker}
use Rattle.dia_json.proofs.Shown.{long_is, no_text_is, syntax_recorded, duplicate_recorded, limit_recorded}
use Rattle.dia_json.proofs.showing.values_line.Goals as goal

pub returns-in-TooLong : goal.returns-in-TooLong
returns-in-TooLong c = rw c.in-TooLong.is (IfOk-weaker c.from_str.result _ _ (λ text is. is ∙ sym long_is) c.from_str.ensures.ok)

pub returns-in-NotText : goal.returns-in-NotText
returns-in-NotText c =
    rw c.in-NotText.is (IfOk-weaker c.from_str-in-NotText.result _ _ (λ text is. is ∙ sym (no_text_is c.in-NotText.at)) c.from_str-in-NotText.ensures.ok)

pub returns-in-Syntax : goal.returns-in-Syntax
returns-in-Syntax c = rw c.in-Syntax.is (IfOk-weaker c.format.result _ _ (λ text is. syntax_recorded c.in-Syntax.line _ is) c.format.ensures.ok)

pub returns-in-Duplicate : goal.returns-in-Duplicate
returns-in-Duplicate c = rw c.in-Duplicate.is (IfOk-weaker c.format-in-Duplicate.result _ _ (λ text is. duplicate_recorded c.in-Duplicate.line _ is) c.format-in-Duplicate.ensures.ok)

pub returns-in-Limit : goal.returns-in-Limit
returns-in-Limit c = rw c.in-Limit.is (IfOk-weaker c.format-in-Limit.result _ _ (λ text is. limit_recorded c.in-Limit.line _ is) c.format-in-Limit.ensures.ok)
