use Rattle.dia_data.specs.Plain.{ranges_of}
use Rattle.dia_breaking_data.proofs.RangesOfNumbers.{of_set}
use Rattle.dia_breaking_data.proofs.TheData.{data_of_set}
use Rattle.dia_breaking_data.proofs.kinds.kind_of_values.Goals as goal

pub returns-in-Some-clause-same : goal.returns-in-Some-clause-same
returns-in-Some-clause-same c = of_set c.in-Some.numbers.now (ranges_of c.args.values.now) c.in-Some.ensures

pub returns-in-Some-clause-least : goal.returns-in-Some-clause-least
returns-in-Some-clause-least c = data_of_set c.in-Some.numbers.now (ranges_of c.args.values.now) c.in-Some.ensures
