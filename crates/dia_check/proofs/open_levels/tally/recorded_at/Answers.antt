use Rattle.std.proofs.Common.{◌+◌, List, Some, sym, ap, ◌∙◌}
use Rattle.std.proofs.lemmas.Option.{slice_get-get_or}
use Rattle.std.specs.Prelude.{slice_get}
use Rattle.dia_check.specs.declared.open_levels.tally.Met.{Met}
use Rattle.dia_check.proofs.Tallies.{get_from, occurs_recorded}
use Rattle.dia_check.proofs.open_levels.tally.recorded_at.Goals as goal

pub returns-in-Some-clause-recorded : goal.returns-in-Some-clause-recorded
returns-in-Some-clause-recorded c =
    let all = c.deref.result.now in
    let items = c.args.tallies.now.items in
    let met = c.in-Some.met.now in
    let there = c.in-Some.ensures.lookup in
    let at = get_from items c.args.base c.args.rule ∙ ap (λ (t : List Met). slice_get t (c.args.base + c.args.rule)) (sym c.deref.ensures.value)
    ∙ slice_get-get_or all (c.args.base + c.args.rule) met there.3.0 ∙ ap (λ (m : Met). Some m) (sym there.1) in
    occurs_recorded items _ c.args.base c.args.many c.args.rule c.args.rule met c.requires at c.if-met-rule.true
