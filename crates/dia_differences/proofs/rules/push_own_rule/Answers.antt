use Rattle.std.proofs.lemmas.Result.{on_ok_weaker}
use Rattle.dia_differences.specs.Owners.{rules_of}
use Rattle.dia_differences.specs.Matching.{rule_place}
use Rattle.dia_differences.proofs.RuleLines.{rule_found, rule_missing}
use Rattle.dia_differences.proofs.rules.push_own_rule.Goals as goal

pub returns-in-None : goal.returns-in-None
returns-in-None g c =
    on_ok_weaker c.push_line.result
    (rule_missing c.args.first.of c.args.other c.args.first.rule c.args.rule (rules_of (g.B.Book.meaning c.args.b.now) c.args.other) (rule_place (g.A.Book.meaning c.args.a.now) (g.B.Book.meaning c.args.b.now) c.args.pairs.now c.args.other c.args.rule) c.args.lines.now.items c.push_line.new.lines.items c.in-None.ensures)
    c.push_line.ensures

pub returns-in-Some : goal.returns-in-Some
returns-in-Some g c =
    on_ok_weaker c.push_unless.result
    (rule_found c.args.first.of c.args.other c.args.first.rule c.in-Some.place c.args.rule (rules_of (g.B.Book.meaning c.args.b.now) c.args.other) c.rules.result.now (rule_place (g.A.Book.meaning c.args.a.now) (g.B.Book.meaning c.args.b.now) c.args.pairs.now c.args.other c.args.rule) c.is_same_at-same.result c.args.lines.now.items c.push_unless.new.lines.items
    c.in-Some.ensures c.rules.ensures c.is_same_at-same.ensures)
    c.push_unless.ensures
