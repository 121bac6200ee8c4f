use Rattle.dia_captures.proofs.LinesOfMessages.{checks_once}
use Rattle.dia_captures.proofs.laws.one_check_of_lines.Goals as goal

pub returns : goal.returns
returns c = checks_once
