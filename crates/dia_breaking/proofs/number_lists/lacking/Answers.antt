use Rattle.dia_data.specs.Plain.{plain_format}
use Rattle.dia_breaking.specs.Runs.{ranges_in}
use Rattle.dia_breaking.proofs.LackingNumbers.{lacking_is}
use Rattle.dia_breaking.proofs.number_lists.lacking.Goals as goal

pub returns : goal.returns
returns c = lacking_is c.in-Some.numbers.now c.in-Some-listed.others.now (ranges_in (plain_format c.args.format.now)) (ranges_in (plain_format c.args.other.now))
    c.in_ok-without.field-0.items c.in-Some.ensures c.in-Some-listed.ensures c.in_ok-without.ensures
