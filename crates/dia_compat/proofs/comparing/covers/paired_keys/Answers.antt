use Rattle.std.proofs.Common.{Bool, sym, ap, ◌∙◌}
use Rattle.std.specs.Prelude.{◌||◌}
use Rattle.dia_compat.specs.TableText.{plain_pair}
use Rattle.dia_compat.specs.PairTests.{pairs_key}
use Rattle.dia_compat.proofs.SetsOfPairs.{any_more}
use Rattle.dia_compat.proofs.comparing.covers.paired_keys.Goals as goal

pub loop-pair-preserved : goal.loop-pair-preserved
loop-pair-preserved g c key =
    let pairs = c.args.pairs.now in
    let i = c.loop-pair.pair-index in
    let p = c.pair-item.result in
    let has = pairs_key c.args.a.now c.args.b.now key in
    (rw c.deref_mut.ensures.value at c.in_ok-add_key.ensures) key ∙ ap (λ (b : Bool). b || has (plain_pair p)) (c.loop-pair.invariant key)
    ∙ sym (any_more has pairs i p c.loop-pair-test.true c.pair-item.is)
