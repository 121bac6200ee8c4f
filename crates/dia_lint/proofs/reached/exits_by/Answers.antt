use Rattle.std.proofs.Common.{None, ap, ◌∙◌, arith}
use Rattle.std.specs.List.{filter_map}
use Rattle.std.proofs.lemmas.List.{take_all}
use Rattle.std.proofs.lemmas.Option.{slice_get-get_or}
use Rattle.dia_book.specs.declared.RuleKind.TheVariants.{Fixed}
use Rattle.dia_lint.specs.Ways.{exit_by, side_of}
use Rattle.dia_lint.proofs.FoundWays.{one_exit_more}
use Rattle.dia_lint.proofs.reached.exits_by.Goals as goal

pub loop-rule-preserved : goal.loop-rule-preserved
loop-rule-preserved g c =
    let rules = c.args.rules.now in
    let i = c.loop-rule.rule-index in
    one_exit_more (exit_by (side_of g.B.Book.meaning c.args.lengths.now) c.args.cost.now) rules i _ c.exit_by.result c.loop-rule.listed.items c.push_exit.new.listed.items
    c.in_ok-push_exit.ensures c.exit_by.ensures c.loop-rule.invariant (slice_get-get_or rules i (record { kind = Fixed; key = None; min = 0; max = None }) (omega arith))

pub returns : goal.returns
returns g c =
    c.loop-rule.invariant
    ∙ ap (filter_map (exit_by (side_of g.B.Book.meaning c.args.lengths.now) c.args.cost.now)) (take_all c.loop-rule.rule-index c.args.rules.now c.loop-rule-test.false)
