use Rattle.std.proofs.Common.{◌≡◌, ℕ, Option, ap, ◌∙◌, arith}
use Rattle.dia_wire.specs.declared.Key.{Key}
use Rattle.dia_breaking_shortest.specs.Least.{entry_filler}
use Rattle.dia_breaking_shortest.proofs.LeafData.{kept_more}
use Rattle.dia_breaking_shortest.proofs.LeafLengths.{pushed_length}
use Rattle.dia_breaking_shortest.proofs.finding.fillers_in.Goals as goal

pub loop-index-preserved : goal.loop-index-preserved
loop-index-preserved g c =
    let d = g.B.Book.meaning c.args.book.now in
    let least = c.args.least.now in
    let i = c.loop-index.index in
    let filler = entry_filler d least.sends least.unknown c.args.order.now in (
      pushed_length _ _ _ i c.in_ok-push.ensures.items c.loop-index.invariant.0,
      kept_more (λ (e : ℕ) (found : Option Key). found ≡ filler e) c.loop-index.found.items _ i c.entry_filler.result c.loop-index.invariant.0 c.loop-index.invariant.1
          (c.entry_filler.ensures ∙ ap filler c.entry_at.ensures) c.in_ok-push.ensures.items,
    )

pub returns : goal.returns
returns g c = λ e within. c.loop-index.invariant.1 e (omega (arith, within, c.loop-index-test.false, c.entries-index-end.ensures.count, c.loop-index.auto.index-end))
