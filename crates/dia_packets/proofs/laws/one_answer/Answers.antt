use Rattle.dia_packets.proofs.OneFile.{file_once}
use Rattle.dia_packets.proofs.laws.one_answer.Goals as goal

pub returns : goal.returns
returns c = file_once
