use Rattle.dia_data.specs.Plain.{plain_format}
use Rattle.dia_breaking_data.proofs.TriedData.{tried_off, tried_on, tried_all}
use Rattle.dia_breaking_data.proofs.candidates.first_refused.Goals as goal

pub returns-then-not-is_leaf : goal.returns-then-not-is_leaf
returns-then-not-is_leaf c =
    tried_off (plain_format c.args.format.now) c.args.candidates.now c.loop-candidate.candidate-index c.candidate-item.result c.as_slice.result.now c.is_leaf.result c.loop-candidate-test.true
    c.candidate-item.is c.as_slice.ensures c.loop-candidate.invariant c.is_leaf.ensures c.if-not-is_leaf.true

pub loop-candidate-preserved : goal.loop-candidate-preserved
loop-candidate-preserved c =
    tried_on (plain_format c.args.format.now) c.args.candidates.now c.loop-candidate.candidate-index c.candidate-item.result c.as_slice.result.now c.is_leaf.result c.loop-candidate-test.true
    c.candidate-item.is c.as_slice.ensures c.loop-candidate.invariant c.is_leaf.ensures c.if-not-is_leaf.false

pub returns : goal.returns
returns c = tried_all (plain_format c.args.format.now) c.args.candidates.now c.loop-candidate.candidate-index c.loop-candidate-test.false c.loop-candidate.invariant
