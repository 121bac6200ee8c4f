use Rattle.std.proofs.Common.{refl}
use Rattle.dia_breaking_levels.specs.LevelTests.{length_once}
use Rattle.dia_breaking_levels.proofs.AloneBounds.{with_within}
use Rattle.dia_breaking_levels.proofs.laws.once_is_least.Goals as goal

pub returns : goal.returns
returns c = λ listed other others rules key are shortest. with_within listed other others rules key (length_once listed other others rules key) are refl shortest
