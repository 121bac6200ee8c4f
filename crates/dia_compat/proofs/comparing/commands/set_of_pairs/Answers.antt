use Rattle.dia_compat.proofs.SetsOfPairs.{one_pair_more}
use Rattle.dia_compat.proofs.comparing.commands.set_of_pairs.Goals as goal

pub loop-pair-preserved : goal.loop-pair-preserved
loop-pair-preserved c =
    one_pair_more c.args.pairs.now c.loop-pair.set.keys c.insert.new.self.keys c.loop-pair.pair-index (c.as_str.result, c.as_str-in-loop-pair.result) c.pair-item.result
    c.loop-pair-test.true c.pair-item.is c.as_str.ensures.value c.as_str-in-loop-pair.ensures.value c.loop-pair.invariant c.in_ok-insert.ensures.keys
