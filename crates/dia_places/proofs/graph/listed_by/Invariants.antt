use Rattle.std.proofs.Common.{◌≡◌, take}
use Rattle.dia_places.specs.Graph.{listed_by}
use Rattle.dia_places.proofs.graph.listed_by.Given as goal

abbrev pub invariant-loop-rule : goal.invariant-loop-rule
invariant-loop-rule g l = l.listed.items ≡ listed_by (g.B.Book.meaning l.book) (take l.rule-index l.rules)
