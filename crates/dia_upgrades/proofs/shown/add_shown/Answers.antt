use Rattle.std.proofs.lemmas.Result.{on_ok_weaker}
use Rattle.dia_upgrades.proofs.shown.add_shown.Goals as goal

pub returns-in-Some-clause-added : goal.returns-in-Some-clause-added
returns-in-Some-clause-added g c =
    on_ok_weaker c.add.result (λ added begun before is. rw c.in-Some.is (rw c.as_bytes.ensures.value at (added begun before is))) c.add.ensures.added

pub returns-in-Some-clause-front : goal.returns-in-Some-clause-front
returns-in-Some-clause-front g c = λ failed begun before is. rw c.in-Some.is (rw c.as_bytes.ensures.value at (c.add.ensures.front failed begun before is))
