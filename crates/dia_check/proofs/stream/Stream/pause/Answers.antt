use Rattle.std.proofs.Math.Logic.{∥∥₁_map}
use Rattle.dia_check.proofs.stream.Stream.pause.Goals as goal

pub returns-clause-fits : goal.returns-clause-fits
returns-clause-fits g c = ∥∥₁_map c.args.self.holds (λ x. record { before = c.args.self.body; is_pause = c.pause_body.ensures _; is_stage = x })

pub returns-clause-paused : goal.returns-clause-paused
returns-clause-paused g c d u most bytes occurs = record {
  unknown = occurs.unknown;
  levels = occurs.levels;
  before = c.args.self.body;
  is_pause = c.pause_body.ensures d;
  taken = occurs.taken;
}
