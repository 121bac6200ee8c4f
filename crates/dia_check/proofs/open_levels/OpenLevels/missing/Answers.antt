use Rattle.std.proofs.Common.{length, refl, ap, arith, rules}
use Rattle.std.proofs.Math.Logic.{∥∥₁_elim}
use Rattle.std.specs.Coded.{le_prop}
use Rattle.std.specs.Prelude.{◌≤◌}
use Rattle.std.proofs.lemmas.Option.{slice_get-get_or}
use Rattle.dia_check.proofs.KeptLevels.{own_low, own_slice, own_counted, all_met, one_missing, met_all, unmet_all}
use Rattle.dia_check.proofs.Tallies.{rising_prop}
use Rattle.dia_check.proofs.open_levels.OpenLevels.missing.Goals as goal

pub slice_bounds-tally-count : goal.slice_bounds-tally-count
slice_bounds-tally-count c =
    let low : c.args.self.now.innermost.base ≤ length c.args.self.now.tallies.items = ∥∥₁_elim c.requires.open le_prop
    (λ x. let (defs, outer, level, now, same) = x in own_low defs c.args.self.now outer level now) in
    let same = ap length c.deref.ensures.value in
    omega (arith, low, same)

pub slice_bounds-tally-start : goal.slice_bounds-tally-start
slice_bounds-tally-start c =
    let low : c.args.self.now.innermost.base ≤ length c.args.self.now.tallies.items = ∥∥₁_elim c.requires.open le_prop
    (λ x. let (defs, outer, level, now, same) = x in own_low defs c.args.self.now outer level now) in
    let inside : c.args.self.now.innermost.base ≤ length c.deref.result.now = let same = ap length c.deref.ensures.value in omega (arith, low, same) in
    search rules

pub offset_bounds-deref-self : goal.offset_bounds-deref-self
offset_bounds-deref-self c =
    let low : c.args.self.now.innermost.base ≤ length c.args.self.now.tallies.items = ∥∥₁_elim c.requires.open le_prop
    (λ x. let (defs, outer, level, now, same) = x in own_low defs c.args.self.now outer level now) in
    let inside : c.args.self.now.innermost.base ≤ length c.deref.result.now = let same = ap length c.deref.ensures.value in omega (arith, low, same) in
    search rules

pub unmet_among-requires-clause-rising : goal.unmet_among-requires-clause-rising
unmet_among-requires-clause-rising c = ∥∥₁_elim c.requires.open (rising_prop 0 _) (λ x. let (defs, outer, level, now, same) = x in
    (own_counted defs c.args.self.now outer level c.args.rules.now _ now same (own_slice c.args.self.now c.deref.result.now c.deref.ensures.value)).rising)

pub returns-in_err-place : goal.returns-in_err-place
returns-in_err-place c defs outer level now same =
    let counted = own_counted defs c.args.self.now outer level c.args.rules.now _ now same (own_slice c.args.self.now c.deref.result.now c.deref.ensures.value) in
    rw c.from_residual.ensures
    (all_met c.args.rules.now level.keys c.args.self.now.innermost _
    counted (met_all c.args.rules.now _ c.args.self.now.innermost.done _ counted.done c.in_err-place.ensures))

pub returns : goal.returns
returns c defs outer level now same =
    let counted = own_counted defs c.args.self.now outer level c.args.rules.now _ now same (own_slice c.args.self.now c.deref.result.now c.deref.ensures.value) in
    rw c.missing.ensures (
      c.in_ok-place.place,
      _,
      one_missing c.args.rules.now level.keys c.args.self.now.innermost _ c.in_ok-place.place _
          counted (unmet_all c.args.rules.now _ c.args.self.now.innermost.done _ c.in_ok-place.place counted.done c.in_ok-place.ensures)
          (slice_get-get_or c.args.rules.now c.in_ok-place.place _ c.in_ok-place.ensures.inside),
      refl,
      refl,
    )

pub unmet_among-requires-clause-within : goal.unmet_among-requires-clause-within
unmet_among-requires-clause-within c = (
  ∥∥₁_elim c.requires.open le_prop (λ x. let (defs, outer, level, now, same) = x in
      (own_counted defs c.args.self.now outer level c.args.rules.now _ now same (own_slice c.args.self.now c.deref.result.now c.deref.ensures.value)).done_within),
  omega arith,
)
