use Rattle.dia_breaking_ways.specs.Reached.{AreOthers}
use Rattle.dia_breaking_ways.proofs.reach.reach_others.Given as goal

abbrev pub invariant-loop-place : goal.invariant-loop-place
invariant-loop-place l = AreOthers l.ways.room l.ways.nodes.now l.stages l.openings l.place l.initial.best.items l.best.items
