use Rattle.std.proofs.Common.{string_bytes}
use Rattle.dia_answer.proofs.command.write_answer.Goals as goal

pub returns-clause-text : goal.returns-clause-text
returns-clause-text g c = (string_bytes c.in_ok-text.field-0.text, c.in_ok-text.ensures, rw c.as_bytes.ensures.value at c.in_ok-put_all.ensures.ok)

pub returns-in_err-put_all-clause-front : goal.returns-in_err-put_all-clause-front
returns-in_err-put_all-clause-front g c =
    λ device. (string_bytes c.in_ok-text.field-0.text, c.in_ok-text.field-0.exit, c.in_ok-text.ensures, rw c.as_bytes.ensures.value at c.put_all.ensures.front)
