use Rattle.std.proofs.Common.{◌≤◌, length, sym, ◌∙◌, arith}
use Rattle.dia_explain_places.proofs.TableWords.{start_is}
use Rattle.dia_explain_places.proofs.lines.start_of_line.Goals as goal

pub returns-then-line-wanted-clause-start : goal.returns-then-line-wanted-clause-start
returns-then-line-wanted-clause-start c =
    let within : c.loop-index.index ≤ length c.args.text.now = omega (arith, c.loop-index-test.true) in
    start_is c.args.text.now c.args.number c.loop-index.index within c.loop-index.invariant.1
    (λ _. sym c.loop-index.invariant.0 ∙ c.if-line-wanted.true)

pub returns-clause-start : goal.returns-clause-start
returns-clause-start c =
    start_is c.args.text.now c.args.number (length c.args.text.now) (omega arith) (λ k below. c.loop-index.invariant.1 k (omega (arith, below, c.loop-index-test.false)))
    (λ below. absurd (omega (arith, below)))
