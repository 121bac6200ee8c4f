use Rattle.dia_breaking_data.specs.Kinds.{shown}
use Rattle.dia_breaking_data.proofs.Found.{listed_none}
use Rattle.dia_breaking_data.proofs.finding.of_listed.Goals as goal

pub returns-in_err-number : goal.returns-in_err-number
returns-in_err-number c = listed_none (shown c.args.kind) c.args.ranges.now c.from_residual.result c.from_residual.ensures (c.refused_number.ensures.none c.in_err-number.was)
