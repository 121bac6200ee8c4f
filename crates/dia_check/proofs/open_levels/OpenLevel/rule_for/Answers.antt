use Rattle.std.proofs.Common.{◌<◌, ℕ, Option, length, subst, arith}
use Rattle.std.proofs.lemmas.Option.{slice_get-get_or}
use Rattle.std.proofs.Math.Logic.{∥∥₁_elim}
use Rattle.std.specs.Coded.{le_prop}
use Rattle.std.specs.Prelude.{◌≤◌}
use Rattle.dia_valid.proofs.Entries.{fixed_few}
use Rattle.dia_check.proofs.KeysByCounts.{to_within, missing_first, not_allowed_first}
use Rattle.dia_check.proofs.Tallies.{rising_prop}
use Rattle.dia_check.specs.OpenLevels.{Leads}
use Rattle.dia_check.proofs.open_levels.OpenLevel.rule_for.Goals as goal

pub first_unmet-requires-clause-rising : goal.first_unmet-requires-clause-rising
first_unmet-requires-clause-rising c = ∥∥₁_elim c.requires.counted (rising_prop 0 c.args.tally.now) (λ x. x.1.rising)

pub first_unmet-requires-clause-within : goal.first_unmet-requires-clause-within
first_unmet-requires-clause-within c = (
  ∥∥₁_elim c.requires.counted le_prop (λ x. let (keys, counted) = x in
      let leads = c.lead-run.ensures c.args.rules.now keys c.args.key c.requires.rules c.requires.shape counted.run c.requires.slot in
      let fixed = fixed_few c.args.rules.now in
      omega (arith, leads.within.1, fixed)),
  ∥∥₁_elim c.requires.counted le_prop (λ x. let (keys, counted) = x in
      to_within c.args.rules.now c.requires.rules keys c.args.key c.args.self.now c.args.tally.now counted c.lead-run.result.0 c.lead-run.result.1
      (c.lead-run.ensures c.args.rules.now keys c.args.key c.requires.rules c.requires.shape counted.run c.requires.slot)),
)

pub bounds-rules-place : goal.bounds-rules-place
bounds-rules-place c =
    let within : c.lead-run.result.0 ≤ length c.args.rules.now = ∥∥₁_elim c.requires.counted le_prop (λ x. let (keys, counted) = x in
    to_within c.args.rules.now c.requires.rules keys c.args.key c.args.self.now c.args.tally.now counted c.lead-run.result.0 c.lead-run.result.1
    (c.lead-run.ensures c.args.rules.now keys c.args.key c.requires.rules c.requires.shape counted.run c.requires.slot)) in
    omega (arith, c.in-Some.ensures.inside, within)

pub offset_bounds-rules-place : goal.offset_bounds-rules-place
offset_bounds-rules-place c =
    let within : c.lead-run.result.0 ≤ length c.args.rules.now = ∥∥₁_elim c.requires.counted le_prop (λ x. let (keys, counted) = x in
    to_within c.args.rules.now c.requires.rules keys c.args.key c.args.self.now c.args.tally.now counted c.lead-run.result.0 c.lead-run.result.1
    (c.lead-run.ensures c.args.rules.now keys c.args.key c.requires.rules c.requires.shape counted.run c.requires.slot)) in
    omega (arith, c.in-Some.ensures.inside, within, c.requires.rules.few)

pub returns-in-Some : goal.returns-in-Some
returns-in-Some c keys counted =
    let leads = c.lead-run.ensures c.args.rules.now keys c.args.key c.requires.rules c.requires.shape counted.run c.requires.slot in
    let within = to_within c.args.rules.now c.requires.rules keys c.args.key c.args.self.now c.args.tally.now counted c.lead-run.result.0 c.lead-run.result.1 leads in
    let lt : c.in-Some.place < length c.args.rules.now = omega (arith, c.in-Some.ensures.inside, within) in
    rw c.missing.ensures
    (missing_first c.args.rules.now c.requires.rules keys c.args.key c.args.self.now c.args.tally.now counted c.lead-run.result.0 c.lead-run.result.1 leads c.in-Some.place _ c.in-Some.ensures
    (slice_get-get_or c.args.rules.now c.in-Some.place _ lt))

pub returns-in-None : goal.returns-in-None
returns-in-None c keys counted = rw c.avp.ensures (not_allowed_first c.args.rules.now c.requires.rules keys c.args.key c.args.self.now c.args.tally.now counted c.lead-run.result.0
    c.lead-run.result.1 (c.lead-run.ensures c.args.rules.now keys c.args.key c.requires.rules c.requires.shape counted.run c.requires.slot) c.in_default.ensures c.in-None.is)

pub returns-in-Some-rule : goal.returns-in-Some-rule
returns-in-Some-rule c keys counted =
    let leads = c.lead-run.ensures c.args.rules.now keys c.args.key c.requires.rules c.requires.shape counted.run c.requires.slot in
    (subst (λ (o : Option ℕ). Leads c.args.rules.now keys c.args.key c.args.self.now.run c.lead-run.result.0 o) c.in-Some-rule.is leads, c.in_default.ensures)
