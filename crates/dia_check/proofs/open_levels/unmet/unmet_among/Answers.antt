use Rattle.std.proofs.Common.{◌<◌, None, length, get_or, ◌∙◌, arith}
use Rattle.std.proofs.lemmas.Option.{slice_get-get_or}
use Rattle.dia_book.specs.declared.DRule.{DRule}
use Rattle.dia_book.specs.declared.RuleKind.TheVariants.{Fixed}
use Rattle.dia_check.specs.declared.open_levels.tally.Met.{Met}
use Rattle.dia_check.proofs.KeptLevels.{met_next}
use Rattle.dia_check.proofs.Tallies.{count_next, count_first, count_none, count_end}
use Rattle.dia_check.proofs.open_levels.unmet.unmet_among.Goals.{then-place-rule-via-then-place-rule, then-place-rule-via-else-place-rule+then-met-rules}
use Rattle.dia_check.proofs.open_levels.unmet.unmet_among.Goals as goal

abbrev no_rule : DRule
no_rule = record { kind = Fixed; key = None; min = 0; max = None }

abbrev no_met : Met
no_met = record { rule = 0; count = 0 }

pub loop-met-preserved-then-rule-place : goal.loop-met-preserved-then-rule-place
loop-met-preserved-then-rule-place c =
    let items = c.from_rule-met-items.result.now in
    let index = c.loop-met.met-index in
    let at = slice_get-get_or items index no_met c.loop-met-test.true in
    record {
      following = c.loop-met.invariant.following;
      inside = c.loop-met.invariant.inside;
      wanted = c.loop-met.invariant.wanted;
      met = c.loop-met.invariant.met;
      same = λ i le. count_next items index _ at i (λ e. omega (arith, e, le, c.if-rule-place.true)) ∙ c.loop-met.invariant.same i le;
    }

pub returns-then-place-rule : goal.returns-then-place-rule
returns-then-place-rule c =
    let items = c.from_rule-met-items.result.now in
    let index = c.loop-met.met-index in
    let place = c.loop-met.place in
    let at = slice_get-get_or items index no_met c.loop-met-test.true in
    let lt : place < length c.args.rules.now = omega (arith, c.loop-met.invariant.inside, c.requires.within.1) in
    let here = slice_get-get_or c.args.rules.now place no_rule lt in
    let same = c.loop-met.invariant.same place (omega arith) in
    record {
      from_here = c.loop-met.invariant.following;
      inside = c.loop-met.invariant.inside;
      rule = get_or c.args.rules.now place no_rule;
      is_rule = here;
      unmet = elim c.then-place-rule.branch [
        | then-place-rule-via-then-place-rule w ↦ let none = count_none items index _ at place c.from_rule-met-items.ensures.rising w.if-place-rule.true in
            let least = c.loop-met.invariant.wanted (get_or c.args.rules.now place no_rule) here in omega (arith, none, same, least)
        | then-place-rule-via-else-place-rule+then-met-rules w ↦ let recorded = count_first items index _ at place (omega (arith, c.if-rule-place.false, w.if-place-rule.false)) in
            omega (arith, recorded, same, w.if-met-rules.true)
      ];
      met_before = c.loop-met.invariant.met;
    }

pub returns-then-to-place-2 : goal.returns-then-to-place-2
returns-then-to-place-2 c i rule above below there =
    let items = c.from_rule-met-items.result.now in
    let index = c.loop-met.met-index in
    let place = c.loop-met.place in
    let at = slice_get-get_or items index no_met c.loop-met-test.true in
    let lt : place < length c.args.rules.now = omega (arith, c.loop-met.invariant.inside, c.requires.within.1) in
    let same = c.loop-met.invariant.same place (omega arith) in
    let recorded = count_first items index _ at place (omega (arith, c.if-rule-place.false, c.if-place-rule.false)) in
    met_next c.args.rules.now c.args.tally.now c.args.from place c.first_wanted-place-in-loop-met.result (get_or c.args.rules.now place no_rule) c.loop-met.invariant.met
    (slice_get-get_or c.args.rules.now place no_rule lt) (omega (arith, recorded, same, c.if-met-rules.false)) c.first_wanted-place-in-loop-met.ensures i rule above
    (omega (arith, below, c.if-to-place-2.true)) there

pub loop-met-preserved : goal.loop-met-preserved
loop-met-preserved c =
    let items = c.from_rule-met-items.result.now in
    let index = c.loop-met.met-index in
    let place = c.loop-met.place in
    let next = c.first_wanted-place-in-loop-met.ensures in
    let at = slice_get-get_or items index no_met c.loop-met-test.true in
    let lt : place < length c.args.rules.now = omega (arith, c.loop-met.invariant.inside, c.requires.within.1) in
    let same = c.loop-met.invariant.same place (omega arith) in
    let recorded = count_first items index _ at place (omega (arith, c.if-rule-place.false, c.if-place-rule.false)) in
    record {
      following = omega (arith, c.loop-met.invariant.following, next.following);
      inside = c.if-to-place-2.false;
      wanted = next.wanted;
      met = met_next c.args.rules.now c.args.tally.now c.args.from place c.first_wanted-place-in-loop-met.result (get_or c.args.rules.now place no_rule) c.loop-met.invariant.met
          (slice_get-get_or c.args.rules.now place no_rule lt) (omega (arith, recorded, same, c.if-met-rules.false)) next;
      same = λ i le. count_next items index _ at i (λ e. omega (arith, e, le, next.following, c.if-place-rule.false)) ∙ c.loop-met.invariant.same i (omega (arith, le, next.following));
    }

pub returns : goal.returns
returns c =
    let place = c.loop-met.place in
    let lt : place < length c.args.rules.now = omega (arith, c.loop-met.invariant.inside, c.requires.within.1) in
    let here = slice_get-get_or c.args.rules.now place no_rule lt in
    record {
      from_here = c.loop-met.invariant.following;
      inside = c.loop-met.invariant.inside;
      rule = get_or c.args.rules.now place no_rule;
      is_rule = here;
      unmet = let none = count_end c.from_rule-met-items.result.now c.loop-met.met-index place c.loop-met-test.false in let same = c.loop-met.invariant.same place (omega arith) in
          let least = c.loop-met.invariant.wanted (get_or c.args.rules.now place no_rule) here in omega (arith, none, same, least);
      met_before = c.loop-met.invariant.met;
    }
