use Rattle.std.proofs.Common.{false}
use Rattle.dia_diff.specs.Marked.{is_marked}
use Rattle.dia_diff.proofs.SameEffects.{same_effects}
use Rattle.dia_diff.proofs.marks.EffectMarks.new.Goals as goal

pub returns : goal.returns
returns c = λ w.
    same_effects (is_marked c.new.result w) (is_marked c.new-2.result w) (is_marked c.new-3.result w) false false false (c.new.ensures w) (c.new-2.ensures w) (c.new-3.ensures w)
