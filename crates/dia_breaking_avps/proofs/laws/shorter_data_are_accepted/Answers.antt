use Rattle.dia_breaking_data.specs.Shortest.{witness_bytes}
use Rattle.dia_breaking_avps.proofs.ShorterData.{shorter_accepted}
use Rattle.dia_breaking_avps.proofs.laws.shorter_data_are_accepted.Goals as goal

pub returns : goal.returns
returns c = λ da db who u key found bytes breaks sent less. shorter_accepted da db who u key (witness_bytes found) bytes breaks.0 breaks.1 sent less
