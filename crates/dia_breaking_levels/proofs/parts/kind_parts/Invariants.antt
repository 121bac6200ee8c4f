use Rattle.std.proofs.Common.{◌≡◌}
use Rattle.dia_valid.specs.Rules.{rules_in}
use Rattle.dia_breaking_levels.specs.Chosen.{parts_below, plain_demand}
use Rattle.dia_breaking_levels.proofs.parts.kind_parts.Given as goal

abbrev pub invariant-loop-index : goal.invariant-loop-index
invariant-loop-index g l = l.parts.items ≡ parts_below (rules_in (g.A.Book.meaning l.a.book.now) l.a.def) (plain_demand l.demand) l.fixed l.index
