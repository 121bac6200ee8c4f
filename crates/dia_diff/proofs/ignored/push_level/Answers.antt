use Rattle.std.proofs.Common.{List, None, ap, ◌++◌, ◌∙◌, arith}
use Rattle.std.specs.HashSet.{contains}
use Rattle.std.specs.List.{filter_map}
use Rattle.std.proofs.lemmas.List.{take_all}
use Rattle.dia_book.specs.Keys.{same_key}
use Rattle.dia_book.specs.declared.DRule.{DRule}
use Rattle.dia_book.specs.declared.RuleKind.TheVariants.{Fixed}
use Rattle.dia_diff.specs.Ignored.{ignored_by}
use Rattle.dia_diff.specs.Routes.{route_of}
use Rattle.dia_diff.proofs.Collected.{values_next}
use Rattle.dia_diff.proofs.ignored.push_level.Goals as goal

pub loop-rule-preserved : goal.loop-rule-preserved
loop-rule-preserved g c =
    values_next (ignored_by (route_of g.A.Book.meaning g.B.Book.meaning c.args.traffic.now) (contains same_key c.args.broken.now) c.args.readers) c.open_rules-rules.result.now c.loop-rule.rule-index
    (record { kind = Fixed; key = None; min = 0; max = None }) c.ignored_by.result c.args.found.now.items c.loop-rule.found.items c.push_origin.new.found.items (omega arith) c.ignored_by.ensures c.in_ok-push_origin.ensures
    c.loop-rule.invariant

pub returns : goal.returns
returns g c =
    c.loop-rule.invariant
    ∙ ap (λ (rules : List DRule). c.args.found.now.items ++ filter_map (ignored_by (route_of g.A.Book.meaning g.B.Book.meaning c.args.traffic.now) (contains same_key c.args.broken.now) c.args.readers) rules)
    (take_all c.loop-rule.rule-index c.open_rules-rules.result.now (omega arith) ∙ c.open_rules-rules.ensures)
