use Rattle.std.proofs.Common.{◌+◌, ◌<◌, length, ap, arith, refl, sym, ◌∙◌}
use Rattle.std.specs.Prelude.{is_some}
use Rattle.dia_book.specs.Dictionary.{group_place}
use Rattle.dia_lint_text.proofs.Counts.{number_more, number_of, number_of_all}
use Rattle.dia_lint_text.proofs.parts.group_count.Goals as goal

pub loop-index-preserved : goal.loop-index-preserved
loop-index-preserved g c =
    let d = g.B.Book.meaning c.args.book.now in
    let i = c.loop-index.index in
    let within : i < length d.entries = omega (arith, c.loop-index-test.true, c.entries-index-end.ensures.count) in
    record {
      counted = ap (λ n. n + c.groups_at-count.result) c.loop-index.invariant.counted ∙ ap (λ n. number_of d i + n) c.groups_at-count.ensures.value
          ∙ sym (number_more d i (is_some (group_place d i)) within refl);
      few = omega (arith, c.loop-index.invariant.few, c.groups_at-count.ensures.few);
    }

pub returns-clause-count : goal.returns-clause-count
returns-clause-count g c =
    let d = g.B.Book.meaning c.args.book.now in
    let i = c.loop-index.index in
    c.loop-index.invariant.counted ∙ number_of_all d i (omega (arith, c.loop-index-test.false, c.entries-index-end.ensures.count))
