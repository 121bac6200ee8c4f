use Rattle.dia_breaking_ways.specs.Openings.{AreNumbered, AreOpenings}
use Rattle.dia_breaking_ways.proofs.openings.unordered.Given as goal

abbrev pub invariant-loop-level : goal.invariant-loop-level
invariant-loop-level l = AreNumbered l.level l.openings.items × AreOpenings l.room l.stages l.level l.openings.items
