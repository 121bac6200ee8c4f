use Rattle.std.proofs.Common.{inl}
use Rattle.std.specs.Prelude.{string_bytes}
use Rattle.dia_follow_text.proofs.running.refuse.Goals as goal

pub returns-in_err-put_all-clause-front : goal.returns-in_err-put_all-clause-front
returns-in_err-put_all-clause-front g c = λ _.
    inl (string_bytes c.in_ok-answered.answered.text, c.in_ok-answered.answered.exit, c.in_ok-answered.ensures.text, rw c.as_bytes.ensures.value at c.put_all.ensures.front)

pub returns-clause-put : goal.returns-clause-put
returns-clause-put g c = (string_bytes c.in_ok-answered.answered.text, c.in_ok-answered.ensures.text, rw c.as_bytes.ensures.value at c.in_ok-put_all.ensures.ok)
