use Rattle.std.proofs.Common.{◌≡◌, take}
use Rattle.dia_valid.specs.Rules.{rules_in}
use Rattle.dia_breaking_levels.specs.LevelTests.{needed_up}
use Rattle.dia_breaking_levels.proofs.floor.needed.Given as goal

abbrev pub invariant-loop-rule : goal.invariant-loop-rule
invariant-loop-rule g l = l.sum ≡ needed_up (rules_in (g.B.Book.meaning l.b.book.now) l.b.def) (take l.rule-index l.rules)
