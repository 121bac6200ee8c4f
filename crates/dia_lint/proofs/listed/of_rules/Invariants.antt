use Rattle.std.proofs.Common.{◌≡◌, take}
use Rattle.std.specs.List.{filter_map}
use Rattle.dia_lint.specs.ListedAvps.{listed_by}
use Rattle.dia_lint.proofs.listed.of_rules.Given as goal

abbrev pub invariant-loop-rule : goal.invariant-loop-rule
invariant-loop-rule g l = l.places.items ≡ filter_map (listed_by (g.B.Book.meaning l.book)) (take l.rule-index l.rules)
