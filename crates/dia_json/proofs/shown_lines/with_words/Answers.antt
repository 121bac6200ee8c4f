use Rattle.dia_json.proofs.ShownLines.{values_refused}
use Rattle.dia_json.proofs.shown_lines.with_words.Goals as goal

pub returns-in_ok-no_values-in-Err : goal.returns-in_ok-no_values-in-Err
returns-in_ok-no_values-in-Err c =
    values_refused c.args.inputs.now _ c.in-Err.bad c.in_ok-no_values-in-Err.field-0 c.requires.1 (rw c.in-Err.is at c.in_ok-manner.ensures.bad) c.in_ok-no_values-in-Err.ensures.report
    c.in_ok-no_values-in-Err.ensures.recorded
