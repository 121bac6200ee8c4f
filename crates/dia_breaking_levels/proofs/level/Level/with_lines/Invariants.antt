use Rattle.std.proofs.Common.{◌≡◌, ◌++◌, take}
use Rattle.std.specs.Prelude.{filter_map}
use Rattle.dia_valid.specs.Rules.{rules_in}
use Rattle.dia_breaking_levels.specs.LevelTests.{line_of}
use Rattle.dia_breaking_levels.proofs.level.Level.with_lines.Given as goal

abbrev pub invariant-loop-rule : goal.invariant-loop-rule
invariant-loop-rule g l =
    l.lines.items ≡ l.initial.lines.items ++ filter_map (line_of l.reason l.self.floor l.self.most (g.C.Costs.listed_length l.self.costs.now) (g.C.Costs.other_length l.self.costs.now)
    (rules_in (g.A.Book.meaning l.self.a.book.now) l.self.a.def) (rules_in (g.B.Book.meaning l.self.b.book.now) l.self.b.def)) (take l.rule-index l.rules)
