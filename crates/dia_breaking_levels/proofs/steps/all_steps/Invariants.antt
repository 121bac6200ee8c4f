use Rattle.std.proofs.Common.{◌≡◌, take}
use Rattle.dia_valid.specs.Rules.{rules_in}
use Rattle.dia_breaking_levels.specs.Steps.{steps}
use Rattle.dia_breaking_levels.proofs.steps.all_steps.Given as goal

abbrev pub invariant-loop-rule : goal.invariant-loop-rule
invariant-loop-rule g l = l.steps.items ≡ steps (g.C.Costs.listed_length l.costs) l.lengths.0 l.lengths.1 (rules_in (g.B.Book.meaning l.b.book.now) l.b.def) l.wanted (take l.rule-index l.rules)
