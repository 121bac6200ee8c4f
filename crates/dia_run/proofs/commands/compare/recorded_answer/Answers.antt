use Rattle.dia_run.proofs.LinesOfPairs.{command_fails, avp_fails}
use Rattle.dia_run.proofs.commands.compare.recorded_answer.Goals as goal

pub returns-in-Command : goal.returns-in-Command
returns-in-Command c = command_fails c.args.table.now c.args.answer _ _ _ _ _ c.in-No.is c.in-Command.is c.requires c.index.ensures c.failed.ensures.text c.failed.ensures.exit

pub returns-in-Avp : goal.returns-in-Avp
returns-in-Avp c = avp_fails c.args.table.now c.args.answer _ _ _ _ _ c.in-No.is c.in-Avp.is c.requires c.index-in-Avp.ensures c.failed-in-Avp.ensures.text c.failed-in-Avp.ensures.exit
