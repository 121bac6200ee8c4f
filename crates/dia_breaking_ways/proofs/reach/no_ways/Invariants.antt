use Rattle.dia_breaking_ways.specs.Reached.{AreNone}
use Rattle.dia_breaking_ways.proofs.reach.no_ways.Given as goal

abbrev pub invariant-loop : goal.invariant-loop
invariant-loop l = AreNone l.index l.best.items
