use Rattle.std.proofs.Common.{◌≡◌, Some, map, subst, arith}
use Rattle.std.specs.Prelude.{slice_get}
use Rattle.std.proofs.lemmas.List.{length-map}
use Rattle.dia_breaking.specs.Listing.{level_lines, lines_in}
use Rattle.dia_breaking.proofs.Lists.{at_place}
use Rattle.dia_breaking.proofs.RecordedLists.{adds_past, adds_level, adds_no_level}
use Rattle.dia_breaking.proofs.upgrade.Upgrade.push_group_level.Goals as goal

pub returns-in-None-inner : goal.returns-in-None-inner
returns-in-None-inner g c =
    let place = c.args.step.now.place in
    let outlook = c.in-Some.outlook.now in
    let there = c.in-Some.ensures.lookup in
    adds_no_level c.args.site c.args.step.now.way c.args.self.now.outlooks.items place outlook c.args.lines.now.items
    (subst (λ outlooks. slice_get outlooks place ≡ Some outlook) c.deref.ensures.value (at_place c.deref.result.now place outlook there.3.0 there.1)) c.in-None-inner.is

pub returns-in-None : goal.returns-in-None
returns-in-None g c =
    let outlooks = c.args.self.now.outlooks.items in
    adds_past (level_lines c.args.site c.args.step.now.way) (map lines_in outlooks) c.args.step.now.place c.args.lines.now.items (omega (arith, c.in-None.ensures.lookup, length-map outlooks lines_in))

pub returns-in-Some-inner : goal.returns-in-Some-inner
returns-in-Some-inner g c =
    let place = c.args.step.now.place in
    let outlook = c.in-Some.outlook.now in
    let outlooks = c.args.self.now.outlooks.items in
    let there = c.in-Some.ensures.lookup in
    adds_level c.args.site c.args.step.now.way outlooks place outlook c.in-Some-inner.inner c.deref-in-Some-inner.result.now c.push_level_lines.result c.args.lines.now.items
    c.push_level_lines.new.lines.items
    (subst (λ xs. slice_get xs place ≡ Some outlook) c.deref.ensures.value (at_place c.deref.result.now place outlook there.3.0 there.1)) c.in-Some-inner.is c.deref-in-Some-inner.ensures.value
    c.push_level_lines.ensures
