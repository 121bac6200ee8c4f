use Rattle.std.proofs.Common.{◌++◌, ap, string_bytes, sym, ◌∙◌}
use Rattle.std.specs.Prelude.{if◌then◌else◌}
use Rattle.dia_lint_text.specs.Asking.{question}
use Rattle.dia_lint_text.specs.Lines.{object_at, plain_line}
use Rattle.dia_lint_text.specs.Rows.{plain_row}
use Rattle.dia_lint_text.proofs.Searches.{on_ok_map}
use Rattle.dia_lint_text.proofs.listing.push_line.Goals as goal

pub returns-then-asked : goal.returns-then-asked
returns-then-asked g c =
    let d = g.B.Book.meaning c.args.parts.now.book.now in
    let file = c.args.asked.now.file.now in
    let row = c.args.row.now in
    let found = c.args.finding.now in
    let old = string_bytes c.args.out.now in
    on_ok_map _ _ c.push_object.result
    (λ h. λ text line column. h text row.at line column ∙ ap (λ w. old ++ object_at d file text row.at found w) c.deref.ensures
    ∙ ap (λ b. old ++ (if b then object_at d file text row.at found (string_bytes row.detail) else plain_line (question c.args.asked.now) text (plain_row row) found)) (sym c.if-asked.true))
    c.push_object.ensures
