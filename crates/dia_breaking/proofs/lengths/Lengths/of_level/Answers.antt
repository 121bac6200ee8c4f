use Rattle.std.proofs.Common.{Bool, ap}
use Rattle.dia_breaking.specs.Lengths.{prices_where}
use Rattle.dia_breaking.specs.Sender.{costs_of}
use Rattle.dia_breaking.proofs.lengths.Lengths.of_level.Goals as goal

pub returns : goal.returns
returns g c = ap (λ (b : Bool). prices_where b (costs_of c.args.self.now)) c.is_open.ensures
