use Rattle.std.proofs.Common.{sym, ◌∙◌}
use Rattle.std.proofs.lemmas.Result.{err_from_is_err_and}
use Rattle.dia_text.proofs.Parts.{read_none, read_full, read_part, part_failed, read_last, last_failed}
use Rattle.dia_text.proofs.many.parts_made.Goals as goal
use Rattle.dia_text.proofs.many.parts_made.Goals.{then-has_nothing+in_ok-push_part, else-has_nothing}

pub loop-index-init : goal.loop-index-init
loop-index-init g c = read_none c.args.named.now c.args.lines.now _ c.new-out.ensures.bytes

pub returns-in_err-push_part : goal.returns-in_err-push_part
returns-in_err-push_part g c =
    let p = err_from_is_err_and c.from_residual.result c.from_residual.ensures.1 in
    rw (p.1, p.2) (part_failed c.args.named.now c.args.lines.now c.loop-index.start c.loop-index.index _ _ _ c.loop-index-test.true c.loop-index.invariant
    (sym c.has_nothing.ensures ∙ c.if-has_nothing.true) c.in_err-push_part.ensures)

pub loop-index-preserved : goal.loop-index-preserved
loop-index-preserved g c =
    elim c.if-has_nothing.branch [
      | then-has_nothing+in_ok-push_part w ↦ rw (w.start-is, w.out-is)
          (read_part c.args.named.now c.args.lines.now c.loop-index.start c.loop-index.index _ _ _ c.loop-index-test.true c.loop-index.invariant (sym c.has_nothing.ensures ∙ w.if-has_nothing.true)
          w.in_ok-push_part.ensures)
      | else-has_nothing w ↦ rw (w.start-is, w.out-is)
          (read_full c.args.named.now c.args.lines.now c.loop-index.start c.loop-index.index _ _ c.loop-index-test.true c.loop-index.invariant (sym c.has_nothing.ensures ∙ w.if-has_nothing.false))
    ]

pub returns : goal.returns
returns g c = read_last c.args.named.now c.args.lines.now c.loop-index.start c.loop-index.index _ _ c.loop-index-test.false c.loop-index.invariant c.in_ok-push_part-2.ensures

pub returns-in_err-push_part-2 : goal.returns-in_err-push_part-2
returns-in_err-push_part-2 g c =
    let p = err_from_is_err_and c.from_residual-in_err-push_part-2.result c.from_residual-in_err-push_part-2.ensures.1 in
    rw (p.1, p.2) (last_failed c.args.named.now c.args.lines.now c.loop-index.start c.loop-index.index _ _ c.loop-index-test.false c.loop-index.invariant c.in_err-push_part-2.ensures)
