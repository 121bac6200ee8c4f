use Rattle.std.proofs.Common.{◌-◌, length, sym}
use Rattle.dia_check.proofs.Tallies.{found_count, place_end, place_here}
use Rattle.dia_check.proofs.LaidOutTallies.{last_before, no_count_end}
use Rattle.dia_check.proofs.open_levels.tally.last_count.Goals as goal

pub returns-then-last-rule-clause-place : goal.returns-then-last-rule-clause-place
returns-then-last-rule-clause-place c =
    place_here c.args.tally.now c.args.rule (length c.args.tally.now - 1) c.in-Some.last.now c.requires.0 (sym c.in-Some.ensures.value) c.if-last-rule.true

pub returns-then-last-rule-clause-count : goal.returns-then-last-rule-clause-count
returns-then-last-rule-clause-count c =
    let place = place_here c.args.tally.now c.args.rule (length c.args.tally.now - 1) c.in-Some.last.now c.requires.0 (sym c.in-Some.ensures.value) c.if-last-rule.true in
    sym (found_count c.args.tally.now c.args.rule (length c.args.tally.now - 1) c.in-Some.last.now place (sym c.in-Some.ensures.value) c.if-last-rule.true)

pub returns-clause-place : goal.returns-clause-place
returns-clause-place c =
    place_end c.args.tally.now c.args.rule c.in-Some.last.now c.requires.0 (sym c.in-Some.ensures.value)
    (last_before c.args.tally.now c.args.rule (length c.args.tally.now - 1) c.in-Some.last.now c.requires.1 (sym c.in-Some.ensures.value) c.if-last-rule.false)

pub returns-clause-count : goal.returns-clause-count
returns-clause-count c =
    let lt = last_before c.args.tally.now c.args.rule (length c.args.tally.now - 1) c.in-Some.last.now c.requires.1 (sym c.in-Some.ensures.value) c.if-last-rule.false in
    let place = place_end c.args.tally.now c.args.rule c.in-Some.last.now c.requires.0 (sym c.in-Some.ensures.value) lt in
    sym (no_count_end c.args.tally.now c.args.rule place)
