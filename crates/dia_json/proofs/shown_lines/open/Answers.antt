use Rattle.dia_json.proofs.ShownLines.{opening_refused}
use Rattle.dia_json.proofs.shown_lines.open.Goals as goal

pub returns-in_ok-answered-in-Err : goal.returns-in_ok-answered-in-Err
returns-in_ok-answered-in-Err c =
    opening_refused c.args.inputs.now c.in-Err.refused c.in_ok-answered-in-Err.answered c.of_show.result c.in-Err.ensures.recorded c.in-Err.ensures.kept c.of_show.ensures.report
    c.of_show.ensures.text c.of_show.ensures.exit c.in_ok-answered-in-Err.ensures.recorded c.in_ok-answered-in-Err.ensures.report
