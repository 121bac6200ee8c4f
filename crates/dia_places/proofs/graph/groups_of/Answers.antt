use Rattle.std.proofs.Common.{◌≡◌, ◌+◌, ◌<◌, length, true, false, ap, sym, ◌∙◌, arith}
use Rattle.dia_book.specs.Dictionary.{group_place}
use Rattle.dia_places.proofs.Loops.{more_counted}
use Rattle.dia_places.proofs.graph.groups_of.Goals as goal
use Rattle.dia_places.proofs.graph.groups_of.Goals.{then-is_some, else-is_some}

pub loop-index-preserved : goal.loop-index-preserved
loop-index-preserved g c =
    let d = g.B.Book.meaning c.args.book.now in
    let i = c.loop-index.index in
    let within : i < length d.entries = omega (arith, c.loop-index-test.true, c.entries-index-end.ensures.count) in
    let place = c.group.ensures ∙ ap (group_place d) c.entry_at.ensures in
    elim c.if-is_some.branch [
      | then-is_some w ↦ more_counted d i c.loop-index.count c.if-is_some.count true c.group.result within c.loop-index.invariant place (sym c.is_some.ensures ∙ w.if-is_some.true)
          (let e : c.if-is_some.count ≡ c.loop-index.count + 1 = omega (arith, w.count-is) in e)
      | else-is_some w ↦ more_counted d i c.loop-index.count c.if-is_some.count false c.group.result within c.loop-index.invariant place (sym c.is_some.ensures ∙ w.if-is_some.false)
          (let e : c.if-is_some.count ≡ c.loop-index.count + 0 = omega (arith, w.count-is) in e)
    ]
