use Rattle.dia_breaking_ways.specs.Steps.{AreOuterFirst}
use Rattle.dia_breaking_ways.proofs.steps.are_outer_first.Given as goal

abbrev pub invariant-loop-i : goal.invariant-loop-i
invariant-loop-i l = AreOuterFirst l.steps l.i
