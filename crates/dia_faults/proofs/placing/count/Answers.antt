use Rattle.std.proofs.Common.{[], sym, ◌∙◌}
use Rattle.std.proofs.lemmas.Option.{slice_get-get_or}
use Rattle.dia_check.proofs.KeysByCounts.{is_max_of, no_max_of}
use Rattle.dia_faults.proofs.Collecting.{adds_none}
use Rattle.dia_faults.proofs.Counted.{one_too_many, not_one_too_many}
use Rattle.dia_faults.proofs.placing.count.Goals as goal

pub returns-in_ok-push-clause-judged : goal.returns-in_ok-push-clause-judged
returns-in_ok-push-clause-judged c keys run next leads counted =
    let at = slice_get-get_or c.args.rules.now c.args.rule _ c.requires.within in (
      _,
      one_too_many c.args.rules.now keys c.args.key run next c.args.rule leads _ at c.of-met.result (c.of-met.ensures ∙ counted.counted c.args.rule _ at)
          (is_max_of _ c.of-met.result (sym c.if-eq.true ∙ c.eq.ensures)),
      c.in_ok-push.ensures,
    )

pub returns-else-eq-clause-judged : goal.returns-else-eq-clause-judged
returns-else-eq-clause-judged c keys run next leads counted =
    let at = slice_get-get_or c.args.rules.now c.args.rule _ c.requires.within in (
      [],
      not_one_too_many c.args.rules.now keys c.args.key run next c.args.rule leads _ at c.of-met.result (c.of-met.ensures ∙ counted.counted c.args.rule _ at)
          (no_max_of _ c.of-met.result (sym c.if-eq.false ∙ c.eq.ensures)),
      adds_none c.args.found.now,
    )
