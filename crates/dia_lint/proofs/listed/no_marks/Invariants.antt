use Rattle.std.proofs.Common.{[]}
use Rattle.dia_lint.specs.ListedAvps.{AreMarked}
use Rattle.dia_lint.proofs.listed.no_marks.Given as goal

abbrev pub invariant-loop : goal.invariant-loop
invariant-loop l = AreMarked [] l.counter l.marks.items
