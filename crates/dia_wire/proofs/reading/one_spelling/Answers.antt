use Rattle.dia_wire.proofs.Spelling.{one_spelling as spelled_once}
use Rattle.dia_wire.proofs.reading.one_spelling.Goals as goal

pub returns : goal.returns
returns c = spelled_once
