use Rattle.dia_lint.specs.Firsts.{AreFirstOf}
use Rattle.dia_lint.proofs.guidelines.firsts.first_of_each.Given as goal

abbrev pub invariant-loop-index : goal.invariant-loop-index
invariant-loop-index g l = AreFirstOf (g.B.Book.meaning l.book) l.which l.index l.list.items
