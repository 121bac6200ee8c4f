use Rattle.std.proofs.Common.{◌≡◌, ◌≢◌, List, drop, Some, subst, ap, ◌∙◌, arith}
use Rattle.std.proofs.lemmas.List.{length-drop}
use Rattle.std.specs.Prelude.{slice_get}
use Rattle.dia_check.specs.declared.open_levels.tally.Met.{Met}
use Rattle.dia_check.specs.Tallies.{IsPlaceOf}
use Rattle.dia_check.proofs.Tallies.{slice_from, after_more, room_for, newly_recorded}
use Rattle.dia_check.proofs.LaidOutTallies.{all_recorded}
use Rattle.dia_check.proofs.open_levels.tally.deliver.Goals as goal

pub add-requires : goal.add-requires
add-requires c =
    let tallies = c.args.tallies.now in
    let slice = slice_from c.deref.result.now tallies.items c.args.base c.deref.ensures.value in
    let place : IsPlaceOf (drop c.args.base tallies.items) c.args.rule c.place_of-place.result = subst (λ (t : List Met). IsPlaceOf t c.args.rule c.place_of-place.result) slice c.place_of-place.ensures in
    let none : (m : Met) → slice_get (drop c.args.base tallies.items) c.place_of-place.result ≡ Some m → m.rule ≢ c.args.rule =
    λ m at. c.is_at.ensures.no c.if-is_at.false m (ap (λ (t : List Met). slice_get t c.place_of-place.result) slice ∙ at) in
    let following = after_more (drop c.args.base tallies.items) c.place_of-place.result c.args.rule place.following none in
    let room = room_for (drop c.args.base tallies.items) c.args.many c.args.rule c.place_of-place.result c.requires.rising c.requires.below c.requires.one place following in
    let size = length-drop c.args.base tallies.items in
    (omega (arith, place.within, size, c.requires.low, tallies.ok.0), omega (arith, room, size, c.requires.low, c.requires.room, tallies.ok.0))

pub returns-clause-recorded : goal.returns-clause-recorded
returns-clause-recorded c =
    let tallies = c.args.tallies.now in
    let slice = slice_from c.deref.result.now tallies.items c.args.base c.deref.ensures.value in
    let place : IsPlaceOf (drop c.args.base tallies.items) c.args.rule c.place_of-place.result = subst (λ (t : List Met). IsPlaceOf t c.args.rule c.place_of-place.result) slice c.place_of-place.ensures in
    let none : (m : Met) → slice_get (drop c.args.base tallies.items) c.place_of-place.result ≡ Some m → m.rule ≢ c.args.rule =
    λ m at. c.is_at.ensures.no c.if-is_at.false m (ap (λ (t : List Met). slice_get t c.place_of-place.result) slice ∙ at) in
    newly_recorded tallies.items c.add.new.tallies.items _ c.args.base c.args.many c.args.rule c.place_of-place.result c.requires place
    (after_more (drop c.args.base tallies.items) c.place_of-place.result c.args.rule place.following none) c.add.ensures.items

pub returns-then-tally-ge-MANY_RECORDED-clause-recorded : goal.returns-then-tally-ge-MANY_RECORDED-clause-recorded
returns-then-tally-ge-MANY_RECORDED-clause-recorded c =
    all_recorded c.args.tallies.now.items c.lay_out_all.new.tallies.items _ c.args.base c.args.many c.args.rule c.requires c.lay_out_all.ensures.front c.lay_out_all.ensures.rules
