use Rattle.dia_captures.proofs.LinesOfMessages.{refutations_once}
use Rattle.dia_captures.proofs.laws.one_refute_of_lines.Goals as goal

pub returns : goal.returns
returns c = refutations_once
