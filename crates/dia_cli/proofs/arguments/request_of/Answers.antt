use Rattle.dia_cli.proofs.Words.{found_at}
use Rattle.dia_cli.proofs.arguments.request_of.Goals as goal

pub returns-clause-asked : goal.returns-clause-asked
returns-clause-asked c =
    found_at _ _ _ c.in-Some.name.now _ _ c.in-Some.ensures.name c.in-Some.ensures.rows
    (c.in_ok-task.ensures.made, c.in-Some-flag_of.ensures.given, c.is_given-json.ensures)
