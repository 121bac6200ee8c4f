use Rattle.std.proofs.Common.{ap, ◌∙◌}
use Rattle.dia_explain_places.specs.Places.{column_at, line_at}
use Rattle.dia_lint_text.proofs.Cursors.{same_column, same_line}
use Rattle.dia_lint_text.proofs.cursor.Cursor.move_to.Goals as goal

pub returns-clause-line : goal.returns-clause-line
returns-clause-line c =
    let at = c.advance.new.self.at in
    let text = c.args.self.now.text.now in
    c.advance.ensures.cursor.line ∙ ap (λ t. line_at t at) (c.advance.ensures.text ∙ c.rewind.ensures.text) ∙ ap (line_at text) c.advance.ensures.at
    ∙ same_line text c.args.at c.end_of-end.result c.end_of-end.ensures.end

pub returns-clause-column : goal.returns-clause-column
returns-clause-column c =
    let at = c.advance.new.self.at in
    let text = c.args.self.now.text.now in
    c.advance.ensures.cursor.column ∙ ap (λ t. column_at t at) (c.advance.ensures.text ∙ c.rewind.ensures.text) ∙ ap (column_at text) c.advance.ensures.at
    ∙ same_column text c.args.at c.end_of-end.result c.end_of-end.ensures.end
