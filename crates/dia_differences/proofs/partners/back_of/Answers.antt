use Rattle.std.proofs.Common.{ℕ, ◌+◌, List, Option, arith, sym, subst}
use Rattle.std.proofs.lemmas.Option.{slice_get-get_or}
use Rattle.dia_differences.proofs.Linked.{IsLinked, linked_all, linked_more}
use Rattle.dia_differences.proofs.partners.back_of.Goals as goal

pub loop-index-preserved : goal.loop-index-preserved
loop-index-preserved c =
    let there = c.args.there.now in
    let n = c.loop-index.index in
    subst (λ (ws : List (Option ℕ)). IsLinked there ws c.args.count (n + 1)) (sym c.link.ensures)
    (linked_more there c.loop-index.back.items c.args.count n _ c.loop-index.invariant (slice_get-get_or there n _ (omega arith)))

pub returns : goal.returns
returns c = linked_all c.args.there.now c.loop-index.back.items c.args.count c.loop-index.index (omega arith) c.loop-index.invariant
