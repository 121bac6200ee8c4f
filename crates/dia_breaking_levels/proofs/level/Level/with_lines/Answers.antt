use Rattle.std.proofs.Common.{None, sym}
use Rattle.std.proofs.lemmas.List.{append-nil}
use Rattle.dia_book.specs.declared.DRule.{DRule}
use Rattle.dia_book.specs.declared.RuleKind.TheVariants.{Fixed}
use Rattle.dia_valid.specs.Rules.{rules_in}
use Rattle.dia_breaking_levels.specs.LevelTests.{line_of}
use Rattle.dia_breaking_levels.proofs.LinesMore.{lines_all, lines_more, lines_same}
use Rattle.dia_breaking_levels.proofs.level.Level.with_lines.Goals as goal
use Rattle.dia_breaking_levels.proofs.level.Level.with_lines.Goals.{in-Some+in_ok-push-in-Some, in-None}

pub loop-rule-init : goal.loop-rule-init
loop-rule-init g c = sym (append-nil c.args.lines.items)

pub loop-rule-preserved : goal.loop-rule-preserved
loop-rule-preserved g c =
    let self = c.args.self.now in
    let line = line_of c.args.reason self.floor self.most (g.C.Costs.listed_length self.costs.now) (g.C.Costs.other_length self.costs.now) (rules_in (g.A.Book.meaning self.a.book.now) self.a.def)
    (rules_in (g.B.Book.meaning self.b.book.now) self.b.def) in
    let none : DRule = record { kind = Fixed; key = None; min = 0; max = None } in
    let start = c.args.lines.items in
    let out = c.loop-rule.lines.items in
    let rules = c.args.rules.now in
    let i = c.loop-rule.rule-index in
    elim c.match-line.branch [
      | in-Some+in_ok-push-in-Some w ↦
          rw w.lines-is (lines_more line start out w.push.new.self.items rules i none c.line.result w.in-Some.line c.loop-rule-test.true c.line.ensures w.in-Some.is
          w.in_ok-push-in-Some.ensures.items c.loop-rule.invariant)
      | in-None w ↦ rw w.lines-is (lines_same line start out rules i none c.line.result c.loop-rule-test.true c.line.ensures w.in-None.is c.loop-rule.invariant)
    ]

pub returns : goal.returns
returns g c =
    let self = c.args.self.now in
    let line = line_of c.args.reason self.floor self.most (g.C.Costs.listed_length self.costs.now) (g.C.Costs.other_length self.costs.now) (rules_in (g.A.Book.meaning self.a.book.now) self.a.def)
    (rules_in (g.B.Book.meaning self.b.book.now) self.b.def) in
    lines_all line c.args.lines.items c.loop-rule.lines.items c.args.rules.now c.loop-rule.rule-index c.loop-rule-test.false c.loop-rule.invariant
