use Rattle.std.proofs.Common.{◌≡◌, ◌++◌, drop}
use Rattle.dia_valid.specs.Rules.{rules_in}
use Rattle.dia_breaking_levels.specs.Chosen.{extras_of, reads}
use Rattle.dia_breaking_levels.proofs.cut.rule_extras.Given as goal

abbrev pub invariant-loop-rule : goal.invariant-loop-rule
invariant-loop-rule g l =
    let r = reads (rules_in (g.A.Book.meaning l.a.book.now) l.a.def) (rules_in (g.B.Book.meaning l.b.book.now) l.b.def) (g.C.Costs.listed_length l.costs) (g.C.Costs.other_length l.costs)
    (g.C.Costs.other_keys l.costs) l.floor in
    l.extras.items ++ extras_of r l.wanted l.cut (drop l.rule-index (rules_in (g.A.Book.meaning l.a.book.now) l.a.def))
    ≡ extras_of r l.wanted l.fn.cut (rules_in (g.A.Book.meaning l.a.book.now) l.a.def)
