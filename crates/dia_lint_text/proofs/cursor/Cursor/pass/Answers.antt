use Rattle.std.proofs.Common.{◌+◌, ap, arith, sym, ◌∙◌}
use Rattle.std.specs.Prelude.{◌==◌, if◌then◌else◌}
use Rattle.std.proofs.lemmas.Option.{slice_get_within}
use Rattle.dia_explain_places.specs.Places.{is_inner}
use Rattle.dia_lint_text.proofs.Cursors.{column_more, line_more}
use Rattle.dia_lint_text.proofs.cursor.Cursor.pass.Goals as goal

pub returns-clause-cursor : goal.returns-clause-cursor
returns-clause-cursor c =
    let text = c.args.self.now.text.now in
    let at = c.args.self.now.at in
    let byte = c.args.byte in
    let inside = slice_get_within text at byte c.requires.byte in
    record {
      within = omega (arith, inside);
      line = c.next_line-self.ensures ∙ ap (λ n. n + (if byte == 10 then 1 else 0)) c.requires.cursor.line ∙ sym (line_more text at byte c.requires.byte);
      column = c.next_column-self.ensures ∙ ap (λ n. if byte == 10 then 1 else n + (if is_inner byte then 0 else 1)) c.requires.cursor.column ∙ sym (column_more text at byte c.requires.byte);
    }
