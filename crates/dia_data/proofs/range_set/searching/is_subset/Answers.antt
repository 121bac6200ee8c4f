use Rattle.std.proofs.Common.{◌<◌, ◌≤◌, length, get_or, refl, arith}
use Rattle.dia_data.proofs.RangeSets.{IsWalked-first, IsWalked-on, IsWalked-off, IsWalked-all}
use Rattle.dia_data.proofs.range_set.searching.is_subset.Goals as goal
use Rattle.dia_data.proofs.range_set.searching.is_subset.Goals.{then-place-g-via-then-place-g, then-place-g-via-else-place-g+then-low-g, then-place-g-via-else-place-g+else-low-g+then-g-place}

pub loop-low-preserved : goal.loop-low-preserved
loop-low-preserved c =
    let f = c.args.f.now in
    let g = c.args.g.now in
    let i = c.loop-low.low-index in
    let place = c.first_from-place.result in
    let look = c.first_from-place.ensures in
    let first = IsWalked-first f g i c.loop-low.place place c.loop-low.invariant c.loop-low-test.true look.before look.there in
    IsWalked-on f g i c.loop-low.place place c.requires.first c.loop-low.invariant c.loop-low-test.true first (omega (arith, c.if-place-g.false, look.within)) c.if-low-g.false c.if-g-place.false

pub returns-then-place-g : goal.returns-then-place-g
returns-then-place-g c =
    let f = c.args.f.now in
    let g = c.args.g.now in
    let i = c.loop-low.low-index in
    let place = c.first_from-place.result in
    let look = c.first_from-place.ensures in
    let first = IsWalked-first f g i c.loop-low.place place c.loop-low.invariant c.loop-low-test.true look.before look.there in
    let beyond : place < length g → (get_or g place (0, 0)).0 ≤ (get_or f i (0, 0)).0 → (get_or g place (0, 0)).1 < (get_or f i (0, 0)).1 = λ short begins. elim c.then-place-g.branch [
      | then-place-g-via-then-place-g w ↦ omega (arith, w.if-place-g.true)
      | then-place-g-via-else-place-g+then-low-g w ↦ omega (arith, w.if-low-g.true)
      | then-place-g-via-else-place-g+else-low-g+then-g-place w ↦ w.if-g-place.true
    ] in
    (λ t. absurd cc, λ below. absurd (IsWalked-off f g i place c.requires.first c.requires.second c.loop-low-test.true first beyond below))

pub returns : goal.returns
returns c = (λ t. IsWalked-all c.args.f.now c.args.g.now c.loop-low.low-index c.loop-low.place c.loop-low-test.false c.loop-low.invariant, λ below. refl)
