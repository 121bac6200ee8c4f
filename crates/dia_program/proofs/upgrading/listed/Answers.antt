use Rattle.std.proofs.lemmas.Result.{IfOk-weaker}
use Rattle.dia_program.proofs.upgrading.listed.Goals as goal

pub returns-then-json-clause-text : goal.returns-then-json-clause-text
returns-then-json-clause-text g c = rw c.if-json.true (IfOk-weaker c.breaking.result _ _ (λ r t. (t.0, t.1, t.3)) c.breaking.ensures.text)

pub returns-then-json-clause-front : goal.returns-then-json-clause-front
returns-then-json-clause-front g c = rw c.if-json.true c.breaking.ensures.front

pub returns-then-json-clause-no_memory : goal.returns-then-json-clause-no_memory
returns-then-json-clause-no_memory g c = rw c.if-json.true c.breaking.ensures.no_memory

pub returns-else-json-clause-text : goal.returns-else-json-clause-text
returns-else-json-clause-text g c = rw c.if-json.false (IfOk-weaker c.breaking-else-json.result _ _ (λ r t. (t.0, t.1, t.3)) c.breaking-else-json.ensures.text)

pub returns-else-json-clause-front : goal.returns-else-json-clause-front
returns-else-json-clause-front g c = rw c.if-json.false c.breaking-else-json.ensures.front

pub returns-else-json-clause-no_memory : goal.returns-else-json-clause-no_memory
returns-else-json-clause-no_memory g c = rw c.if-json.false c.breaking-else-json.ensures.no_memory
