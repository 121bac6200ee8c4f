use Rattle.dia_compared_json.proofs.Pairs.{avp_there, command_there}
use Rattle.dia_compared_json.proofs.failures.pair_at.Goals as goal

pub returns-in-Command : goal.returns-in-Command
returns-in-Command c = command_there c.args.table.now c.args.kind c.args.place _ c.in-Command.is c.requires c.index.ensures

pub returns-in-Avp : goal.returns-in-Avp
returns-in-Avp c = avp_there c.args.table.now c.args.kind c.args.place _ c.in-Avp.is c.requires c.index-in-Avp.ensures
