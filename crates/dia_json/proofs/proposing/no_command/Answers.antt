use Rattle.dia_json.proofs.Pairs.{no_command_recorded}
use Rattle.dia_json.proofs.proposing.no_command.Goals as goal

pub returns-clause-text : goal.returns-clause-text
returns-clause-text c = no_command_recorded c.args.name.now _ _ c.in_ok-name.ensures c.in_ok-text.ensures.ok
