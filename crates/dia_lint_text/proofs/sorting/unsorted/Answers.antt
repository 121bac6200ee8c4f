use Rattle.std.proofs.Common.{◌++◌, ◌∷◌, [], map, ap, arith, sym, take_all, ◌∙◌}
use Rattle.std.specs.Prelude.{if◌then◌else◌}
use Rattle.std.specs.List.{enumerate_from}
use Rattle.std.proofs.lemmas.List.FromFn.{length-enumerate_from}
use Rattle.dia_lint.proofs.Places.{at_place}
use Rattle.dia_lint_text.specs.Asking.{has_in}
use Rattle.dia_lint_text.specs.Rows.{row_of, rows_among}
use Rattle.dia_lint_text.proofs.RowsMore.{rows_more}
use Rattle.dia_lint_text.proofs.sorting.unsorted.Goals as goal

pub returns : goal.returns
returns g c =
    let parts = c.args.parts.now in
    let found = c.args.findings.now in
    let long = length-enumerate_from 0 found in
    c.loop-index.invariant
    ∙ ap (rows_among (has_in c.args.choice.now.chosen.items) (g.B.Book.meaning parts.book.now) parts.source.now (map (λ x. x.now) parts.groups.items) c.args.text.now)
    (take_all c.loop-index.index (enumerate_from 0 found) (omega (arith, long, c.loop-index-test.false)))

pub loop-index-preserved : goal.loop-index-preserved
loop-index-preserved g c =
    let parts = c.args.parts.now in
    let found = c.args.findings.now in
    let is = has_in c.args.choice.now.chosen.items in
    let d = g.B.Book.meaning parts.book.now in
    let groups = map (λ x. x.now) parts.groups.items in
    let i = c.loop-index.index in
    let x = c.index-findings-index.result in
    c.in_ok-push_asked.ensures
    ∙ ap (λ rs. rs ++ (if is x.rule then row_of d parts.source.now groups c.args.text.now (i, x) ∷ [] else [])) c.loop-index.invariant
    ∙ sym (rows_more is d parts.source.now groups c.args.text.now found i x (at_place found i x c.loop-index-test.true c.index-findings-index.is))
