use Rattle.std.proofs.Common.{arith, subst, ◌∙◌}
use Rattle.std.proofs.lemmas.Bool.{ltb-true}
use Rattle.std.proofs.lemmas.List.{length-set}
use Rattle.hex.proofs.HexLemmas.{decode_of-even}
use Rattle.dia_streams.proofs.PairsDecoded.{AreDecoded-all, AreDecoded, AreDecoded-step}
use Rattle.dia_streams.proofs.pairs.decode_pairs.Goals as goal

pub pairs-preserved : goal.pairs-preserved
pairs-preserved c = record {
  long = length-set c.pairs.bytes c.pairs.i _ ∙ c.pairs.invariant.long;
  decoded = AreDecoded-step c.args.digits.now c.pairs.bytes c.pairs.i c.pairs.seen c.value-high.result c.value-low.result
      (omega (arith, c.requires.pairs)) (omega (arith, c.requires.room, c.pairs.invariant.long)) c.value-high.ensures c.value-low.ensures c.pairs.invariant.decoded;
}

pub returns-clause-spelled : goal.returns-clause-spelled
returns-clause-spelled c = λ good.
    decode_of-even c.args.digits.now (omega (arith, c.requires.pairs))
    ∙ AreDecoded-all c.args.digits.now c.pairs.bytes c.args.count c.pairs.seen (omega (arith, c.requires.pairs)) (subst (λ i. AreDecoded c.args.digits.now c.pairs.bytes i c.pairs.seen) (omega arith) c.pairs.invariant.decoded) (ltb-true c.pairs.seen 16 good)
