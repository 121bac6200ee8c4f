use Rattle.dia_check.proofs.Pauses.{not_spent}
use Rattle.dia_c_calls.proofs.feeding.finish_of.Goals as goal

pub returns-clause-answer : goal.returns-clause-answer
returns-clause-answer g c d u most bytes paused same =
    let occurs = c.resume.ensures.occurs d u most bytes paused same in
    c.finish.ensures.answer (not_spent d u most bytes _ _ occurs.taken.read) d u most bytes occurs
