use Rattle.dia_follow_text.proofs.OneAnswer.{read_once, plain_once}
use Rattle.dia_follow_text.proofs.laws.connection_has_one_answer.Goals as goal

pub returns-clause-read : goal.returns-clause-read
returns-clause-read c = read_once

pub returns-clause-as_text : goal.returns-clause-as_text
returns-clause-as_text c = plain_once
