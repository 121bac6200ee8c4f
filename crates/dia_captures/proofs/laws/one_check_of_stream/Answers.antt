use Rattle.dia_captures.proofs.StreamOfMessages.{stream_outcome_once}
use Rattle.dia_captures.proofs.laws.one_check_of_stream.Goals as goal

pub returns : goal.returns
returns c = stream_outcome_once
