use Rattle.dia_wire.proofs.OneHeader.{one_header as headed_once}
use Rattle.dia_wire.proofs.reading.one_header.Goals as goal

pub returns : goal.returns
returns c = headed_once
