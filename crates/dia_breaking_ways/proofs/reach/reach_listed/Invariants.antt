use Rattle.dia_breaking_ways.specs.Reached.{AreListed}
use Rattle.dia_breaking_ways.proofs.reach.reach_listed.Given as goal

abbrev pub invariant-loop-level : goal.invariant-loop-level
invariant-loop-level l = AreListed l.room l.stages l.level l.initial.best.items l.best.items
