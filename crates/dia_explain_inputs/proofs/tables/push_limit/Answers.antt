use Rattle.dia_explain_inputs.proofs.Beginnings.{line_begins}
use Rattle.dia_explain_inputs.proofs.tables.push_limit.Goals as goal

pub returns : goal.returns
returns c =
    line_begins c.args.table.now.name.now c.args.table.now.text.now c.args.line c.limit_word-word.result.at c.args.note.now c.push_made.new.note
    c.limit_word-word.ensures.on_line c.push_made.ensures
