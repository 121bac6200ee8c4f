use Rattle.std.proofs.Common.{None, arith, ap, get_or, sym, ◌∙◌}
use Rattle.std.proofs.lemmas.Option.{slice_get-get_or}
use Rattle.dia_book.specs.declared.DRule.{DRule}
use Rattle.dia_book.specs.declared.RuleKind.TheVariants.{Fixed}
use Rattle.std.specs.Prelude.{List, slice_get}
use Rattle.dia_valid.specs.Rules.{rules_in}
use Rattle.dia_lint.specs.ExactLines.{rule_lines}
use Rattle.dia_lint.specs.Ways.{side_of}
use Rattle.dia_lint.proofs.ExactLists.{part_added, stands_at}
use Rattle.dia_lint.proofs.exact.push_rules.Goals as goal

pub loop-index-preserved : goal.loop-index-preserved
loop-index-preserved g c =
    let s = side_of g.B.Book.meaning c.args.lengths.now in
    let rules = rules_in s.book c.args.def in
    let all = c.rules_of-rules.result.now in
    let i = c.loop-index.index in
    let x : DRule = get_or all i (record { kind = Fixed; key = None; min = 0; max = None }) in
    let at = ap (λ (rs : List DRule). slice_get rs i) (sym c.rules_of-rules.ensures) ∙ slice_get-get_or all i (record { kind = Fixed; key = None; min = 0; max = None }) (omega (arith, c.loop-index-test.true)) in
    part_added (rule_lines s c.args.def c.args.way rules) i c.args.found.now.items c.loop-index.found.items c.push.new.found.items _ c.loop-index.invariant c.in_ok-push.ensures
    (c.never_stands.ensures ∙ stands_at s c.args.def c.args.way i rules c.of-cost.result x at c.of-cost.ensures.exact)
