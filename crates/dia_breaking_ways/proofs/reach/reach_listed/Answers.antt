use Rattle.std.proofs.Common.{ℕ, List, arith, subst, refl, length}
use Rattle.std.proofs.lemmas.Option.{slice_get_read}
use Rattle.dia_breaking_ways.specs.Offers.{AreOffered}
use Rattle.dia_breaking_ways.proofs.ReachedPlaces.{listed_more}
use Rattle.dia_breaking_ways.proofs.reach.reach_listed.Goals as goal

pub loop-level-preserved : goal.loop-level-preserved
loop-level-preserved c =
    let xs = c.args.stages.now in
    let i = c.loop-level.level in
    let own = c.index-stages-level.result in
    let at = slice_get_read xs (length xs) i own refl (omega arith) c.index-stages-level.is in
    let o = subst (λ (l : List (ℕ × ℕ)). AreOffered c.loop-level.best.items c.offer_listed.new.best.items c.args.room i own.way own.wild l (length l)) c.deref.ensures.value c.offer_listed.ensures in
    listed_more c.args.room xs i c.args.best.now.items c.loop-level.best.items c.offer_listed.new.best.items own c.loop-level.invariant at o
