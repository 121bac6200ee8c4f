use Rattle.std.proofs.Common.{List, length, ap, subst, arith, rules}
use Rattle.std.proofs.Math.Logic.{∥∥₁_elim, ∥∥₁_map}
use Rattle.std.specs.Coded.{le_prop}
use Rattle.std.specs.Prelude.{◌≤◌}
use Rattle.dia_check.specs.declared.open_levels.tally.Met.{Met}
use Rattle.dia_check.specs.OpenLevels.{IsLed}
use Rattle.dia_check.proofs.KeptLevels.{own_low, own_slice, own_counted}
use Rattle.dia_check.proofs.open_levels.OpenLevels.meet.Goals as goal

pub slice_bounds-tally-count : goal.slice_bounds-tally-count
slice_bounds-tally-count c =
    let low : c.args.self.now.innermost.base ≤ length c.args.self.now.tallies.items = ∥∥₁_elim c.requires.open le_prop
    (λ x. let (defs, outer, level, now, same, few) = x in own_low defs c.args.self.now outer level now) in
    let same = ap length c.deref.ensures.value in
    omega (arith, low, same)

pub slice_bounds-tally-start : goal.slice_bounds-tally-start
slice_bounds-tally-start c =
    let low : c.args.self.now.innermost.base ≤ length c.args.self.now.tallies.items = ∥∥₁_elim c.requires.open le_prop
    (λ x. let (defs, outer, level, now, same, few) = x in own_low defs c.args.self.now outer level now) in
    let inside : c.args.self.now.innermost.base ≤ length c.deref.result.now = let same = ap length c.deref.ensures.value in omega (arith, low, same) in
    search rules

pub offset_bounds-deref-self : goal.offset_bounds-deref-self
offset_bounds-deref-self c =
    let low : c.args.self.now.innermost.base ≤ length c.args.self.now.tallies.items = ∥∥₁_elim c.requires.open le_prop
    (λ x. let (defs, outer, level, now, same, few) = x in own_low defs c.args.self.now outer level now) in
    let inside : c.args.self.now.innermost.base ≤ length c.deref.result.now = let same = ap length c.deref.ensures.value in omega (arith, low, same) in
    search rules

pub rule_for-requires-clause-counted : goal.rule_for-requires-clause-counted
rule_for-requires-clause-counted c = ∥∥₁_map c.requires.open (λ x. let (defs, outer, level, now, same, few) = x in
    (level.keys, own_counted defs c.args.self.now outer level c.args.rules.now _ now same (own_slice c.args.self.now c.deref.result.now c.deref.ensures.value)))

pub count-requires-clause-led : goal.count-requires-clause-led
count-requires-clause-led c = ∥∥₁_map c.requires.open (λ x. let (defs, outer, level, now, same, few) = x in
    let slice = own_slice c.args.self.now c.deref.result.now c.deref.ensures.value in
    let led = c.in-Ok.ensures level.keys (own_counted defs c.args.self.now outer level c.args.rules.now _ now same slice) in
    (defs, outer, level, now, same, few, subst (λ (t : List Met). IsLed c.args.rules.now level.keys c.args.key t c.args.self.now.innermost.run c.in-Ok.run' c.in-Ok.rule) slice led))

pub returns-in-Ok : goal.returns-in-Ok
returns-in-Ok c defs outer level now same =
    let slice = own_slice c.args.self.now c.deref.result.now c.deref.ensures.value in
    let led = c.in-Ok.ensures level.keys (own_counted defs c.args.self.now outer level c.args.rules.now _ now same slice) in
    c.count.ensures defs outer level now same (subst (λ (t : List Met). IsLed c.args.rules.now level.keys c.args.key t c.args.self.now.innermost.run c.in-Ok.run' c.in-Ok.rule) slice led)
