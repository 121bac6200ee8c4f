use Rattle.dia_io.specs.declared.RunFault.TheVariants.{Device, NoMemory}
use Rattle.dia_upgrades_json.proofs.Reports.{bad_of, fault_of, no_of, text_of, yes_of}
use Rattle.dia_upgrades_json.proofs.command.breaking.Goals as goal

pub returns-clause-text : goal.returns-clause-text
returns-clause-text g c = text_of _ c.args.asked c.args.inputs.now _ _ c.reported.result c.reported.ensures.reports

pub returns-clause-yes : goal.returns-clause-yes
returns-clause-yes g c = yes_of _ c.args.asked c.args.inputs.now _ _ c.reported.result c.reported.ensures.reports

pub returns-clause-no : goal.returns-clause-no
returns-clause-no g c = no_of _ c.args.asked c.args.inputs.now _ _ c.reported.result c.reported.ensures.reports

pub returns-clause-bad : goal.returns-clause-bad
returns-clause-bad g c = bad_of _ c.args.asked c.args.inputs.now _ _ c.reported.result c.reported.ensures.reports

pub returns-clause-front : goal.returns-clause-front
returns-clause-front g c = λ e. fault_of _ c.args.asked c.args.inputs.now _ _ c.reported.result Device c.reported.ensures.reports e

pub returns-clause-no_memory : goal.returns-clause-no_memory
returns-clause-no_memory g c = λ e. fault_of _ c.args.asked c.args.inputs.now _ _ c.reported.result NoMemory c.reported.ensures.reports e
