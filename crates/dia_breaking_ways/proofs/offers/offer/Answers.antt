use Rattle.std.proofs.Common.{◌≡◌, arith, rules, sym, ◌∙◌, true, false}
use Rattle.std.proofs.lemmas.Option.{slice_get_read}
use Rattle.dia_breaking_ways.proofs.BestWays.{offered_not, offered_kept, offered_set}
use Rattle.dia_breaking_ways.proofs.offers.offer.Goals.{else-place-len-via-then-place-len+else-is_earlier, else-place-len-via-else-place-len}
use Rattle.dia_breaking_ways.proofs.offers.offer.Goals as goal

pub returns-then-is_earlier : goal.returns-then-is_earlier
returns-then-is_earlier c =
    let xs = c.args.best.now.items in
    offered_set xs c.args.place c.args.reach c.index.result.now
    (slice_get_read xs c.len.result c.args.place c.index.result.now (search rules) (omega arith) c.index.ensures)
    (c.is_earlier.ensures.0 c.if-is_earlier.true)

pub returns-else-place-len : goal.returns-else-place-len
returns-else-place-len c = elim c.else-place-len.branch [
  | else-place-len-via-then-place-len+else-is_earlier w ↦
      let xs = c.args.best.now.items in
      offered_kept xs c.args.place c.args.reach w.index.result.now
      (slice_get_read xs c.len.result c.args.place w.index.result.now (search rules) (omega arith) w.index.ensures)
      (λ e. let t : true ≡ false = sym (w.is_earlier.ensures.1 e) ∙ w.if-is_earlier.false in cc)
  | else-place-len-via-else-place-len w ↦ offered_not c.args.best.now.items c.args.place c.args.reach (omega (arith, c.len.ensures))
]
