use Rattle.dia_lint.proofs.SamePartsOfRules.{alike_exactly}
use Rattle.dia_lint.proofs.laws.rules_of_one_form.Goals as goal

pub returns : goal.returns
returns c = alike_exactly
