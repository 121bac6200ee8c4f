use Rattle.std.proofs.Common.{arith, ◌∙◌, sym}
use Rattle.dia_text.proofs.LinesOfTexts.{front, within, blank_line, header_line, no_header_line}
use Rattle.dia_text.proofs.making.header_from.Goals as goal

pub returns-in-Ok-Some-clause-begun : goal.returns-in-Ok-Some-clause-begun
returns-in-Ok-Some-clause-begun g c = (
  sym c.loop-index.invariant ∙ header_line _ _ c.loop-index.index _ _ (front c.args.lines.now c.loop-index.index _ c.loop-index-test.true)
      (sym (rw c.in-Ok-Some.field-0-is at c.in-Ok-Some.ensures.value)),
  within c.args.lines.now c.loop-index.index c.loop-index-test.true,
)

pub returns-in-Err-clause-begun : goal.returns-in-Err-clause-begun
returns-in-Err-clause-begun g c =
    rw c.fault_in.ensures (sym c.loop-index.invariant
    ∙ no_header_line _ _ c.loop-index.index _ _ (front c.args.lines.now c.loop-index.index _ c.loop-index-test.true) (sym c.in-Err.ensures.value))

pub loop-index-preserved : goal.loop-index-preserved
loop-index-preserved g c =
    sym (blank_line _ _ c.loop-index.index _ (front c.args.lines.now c.loop-index.index _ c.loop-index-test.true) (sym (rw c.in-Ok-None.field-0-is at c.in-Ok-None.ensures.value)))
    ∙ c.loop-index.invariant

pub returns-in-Err-clause-line : goal.returns-in-Err-clause-line
returns-in-Err-clause-line g c = rw c.fault_in.ensures (omega (arith, c.loop-index-test.true))
