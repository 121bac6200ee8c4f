use Rattle.std.proofs.Common.{◌∷◌, [], map, string_bytes, sym, ◌∙◌}
use Rattle.std.specs.Option.{option_copied, option_map_or}
use Rattle.dia_lint_text.specs.Asking.{question}
use Rattle.dia_lint_text.specs.Lines.{line_by}
use Rattle.dia_lint_text.specs.Rows.{plain_row}
use Rattle.dia_lint_text.proofs.Left.{with_it, without_it}
use Rattle.dia_lint_text.proofs.Searches.{on_ok_map}
use Rattle.dia_lint_text.proofs.listing.take_row.Goals as goal

pub returns-then-branch-clause-text : goal.returns-then-branch-clause-text
returns-then-branch-clause-text g c = λ list recorded seen.
    without_it (string_bytes c.args.left.now.text) _ _ (sym (c.in_ok-is_accepted.ensures.accepted list recorded seen) ∙ c.if-branch.true)

pub returns-then-branch-clause-shown : goal.returns-then-branch-clause-shown
returns-then-branch-clause-shown g c = λ list recorded seen.
    without_it (map (λ s. s.rule) c.args.left.now.shown.items) _ _ (sym (c.in_ok-is_accepted.ensures.accepted list recorded seen) ∙ c.if-branch.true)

pub returns-clause-text : goal.returns-clause-text
returns-clause-text g c =
    on_ok_map _ _ c.push_row.result
    (λ h. λ list recorded seen. h c.args.cursor.now.text.now c.move_to-place.ensures.line c.move_to-place.ensures.column
    ∙ with_it (string_bytes c.args.left.now.text)
    (option_map_or (line_by (question c.args.asked.now) (g.B.Book.meaning c.args.parts.now.book.now) c.args.cursor.now.text.now (plain_row c.args.row.now)) (option_copied c.args.finding) [])
    _ (sym (c.in_ok-is_accepted.ensures.accepted list recorded seen) ∙ c.if-branch.false))
    c.push_row.ensures.text

pub returns-clause-shown : goal.returns-clause-shown
returns-clause-shown g c =
    on_ok_map _ _ c.push_row.result
    (λ h. λ list recorded seen. h
    ∙ with_it (map (λ s. s.rule) c.args.left.now.shown.items) (c.args.row.now.rule ∷ []) _ (sym (c.in_ok-is_accepted.ensures.accepted list recorded seen) ∙ c.if-branch.false))
    c.push_row.ensures.shown
