use Rattle.dia_data.specs.Plain.{plain_format}
use Rattle.dia_breaking.specs.Runs.{ranges_in}
use Rattle.dia_breaking.proofs.LackingNumbers.{numbers_are}
use Rattle.dia_breaking.proofs.number_lists.numbers_of.Goals as goal

pub returns : goal.returns
returns c = numbers_are c.listed.result (ranges_in (plain_format c.args.format.now)) c.listed.ensures
