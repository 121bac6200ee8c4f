use Rattle.dia_differences.proofs.Linked.{IsLinked}
use Rattle.dia_differences.proofs.partners.back_of.Given as goal

abbrev pub invariant-loop-index : goal.invariant-loop-index
invariant-loop-index l = IsLinked l.there l.back.items l.count l.index
