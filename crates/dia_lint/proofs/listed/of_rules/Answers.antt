use Rattle.std.proofs.Common.{None, ap, ◌∙◌, arith}
use Rattle.std.specs.List.{filter_map}
use Rattle.std.proofs.lemmas.List.{take_all}
use Rattle.std.proofs.lemmas.Option.{slice_get-get_or}
use Rattle.dia_book.specs.declared.RuleKind.TheVariants.{Fixed}
use Rattle.dia_lint.specs.ListedAvps.{listed_by}
use Rattle.dia_lint.proofs.FoundWays.{one_exit_more}
use Rattle.dia_lint.proofs.listed.of_rules.Goals as goal

pub loop-rule-preserved : goal.loop-rule-preserved
loop-rule-preserved g c =
    let rules = c.args.rules.now in
    let i = c.loop-rule.rule-index in
    one_exit_more (listed_by (g.B.Book.meaning c.args.book.now)) rules i _ c.listed_by.result c.loop-rule.places.items c.push_place.new.places.items
    c.in_ok-push_place.ensures c.listed_by.ensures c.loop-rule.invariant (slice_get-get_or rules i (record { kind = Fixed; key = None; min = 0; max = None }) (omega arith))

pub returns : goal.returns
returns g c = c.loop-rule.invariant ∙ ap (filter_map (listed_by (g.B.Book.meaning c.args.book.now))) (take_all c.loop-rule.rule-index c.args.rules.now c.loop-rule-test.false)
