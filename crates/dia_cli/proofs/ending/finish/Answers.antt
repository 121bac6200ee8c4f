use Rattle.dia_cli.proofs.Endings.{if_help}
use Rattle.dia_cli.proofs.ending.finish.Goals as goal

pub returns-in-Err-clause-help : goal.returns-in-Err-clause-help
returns-in-Err-clause-help g c = if_help _ _ _ c.in-Err.is c.show.ensures
