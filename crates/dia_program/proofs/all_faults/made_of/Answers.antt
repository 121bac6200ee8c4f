use Rattle.dia_run.proofs.RefusedInputs.{answer_is}
use Rattle.dia_program.specs.Answers.{IsAllFaults}
use Rattle.dia_program.proofs.all_faults.made_of.Goals as goal

pub returns : goal.returns
returns c = answer_is (IsAllFaults c.args.unknown c.args.levels c.args.inputs.now) _ _ c.answer_of.ensures.done c.answer_of.ensures.refused c.listed.ensures
