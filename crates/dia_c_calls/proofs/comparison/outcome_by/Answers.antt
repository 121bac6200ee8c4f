use Rattle.dia_run.proofs.LinesOfPairs.{names_pair}
use Rattle.dia_c_calls.proofs.YesLines.{compared_by}
use Rattle.dia_c_calls.proofs.comparison.outcome_by.Goals as goal

pub recorded_answer-requires : goal.recorded_answer-requires
recorded_answer-requires g c = names_pair _ _ c.args.unknown _ _ c.in_ok-answer.ensures.answer

pub returns-clause-done : goal.returns-clause-done
returns-clause-done g c = compared_by _ _ _ _ _ _ _ c.in_ok-answer.ensures.answer c.in_ok-answer.ensures.inclusion c.in_ok-outcome.ensures
