use Rattle.dia_follow.proofs.OneReading.{one_seen}
use Rattle.dia_follow.proofs.laws.bytes_have_one_reading.Goals as goal

pub returns : goal.returns
returns c = one_seen
