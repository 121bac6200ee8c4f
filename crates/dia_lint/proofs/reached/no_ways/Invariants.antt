use Rattle.dia_lint.specs.Ways.{AreNoWays}
use Rattle.dia_lint.proofs.reached.no_ways.Given as goal

abbrev pub invariant-loop : goal.invariant-loop
invariant-loop l = AreNoWays l.counter l.ways.items
