use Rattle.dia_breaking_avps.proofs.Alone.{keys_alone}
use Rattle.dia_breaking_avps.proofs.laws.keys_fit_alone.Goals as goal

pub returns : goal.returns
returns c = keys_alone
