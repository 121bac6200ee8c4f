use Rattle.std.proofs.Common.{◌≡◌, take}
use Rattle.dia_valid.specs.Rules.{rules_in}
use Rattle.dia_breaking_levels.specs.LevelTests.{inner_length, cheapest}
use Rattle.dia_breaking_levels.proofs.floor.cheapest.Given as goal

abbrev pub invariant-loop-rule : goal.invariant-loop-rule
invariant-loop-rule g l = l.best ≡ cheapest (inner_length (g.C.Costs.other_length l.costs) (rules_in (g.A.Book.meaning l.a.book.now) l.a.def) l.except) (take l.rule-index l.rules)
