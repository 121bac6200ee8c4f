use Rattle.std.proofs.Common.{◌∙◌, arith}
use Rattle.dia_data.specs.Plain.{plain_format}
use Rattle.dia_breaking_data.specs.Kinds.{four_bytes}
use Rattle.dia_breaking_data.proofs.TriedData.{one_more, refused_bytes}
use Rattle.dia_breaking_data.proofs.numbers.first_refused_of.Goals as goal

pub returns-then-not-is_leaf-clause-some : goal.returns-then-not-is_leaf-clause-some
returns-then-not-is_leaf-clause-some c =
    let n = c.loop-number.number in (
      (c.loop-number.invariant.from, c.loop-number-test.true),
      refused_bytes (plain_format c.args.format.now) c.as_slice.result.now (four_bytes n) c.is_leaf.result (c.as_slice.ensures ∙ c.of_number.ensures) c.is_leaf.ensures c.if-not-is_leaf.true,
    )

pub loop-number-preserved : goal.loop-number-preserved
loop-number-preserved c = record {
  from = omega (arith, c.loop-number.invariant.from);
  accepted = one_more (plain_format c.args.format.now) c.args.low c.loop-number.number c.as_slice.result.now c.is_leaf.result (c.as_slice.ensures ∙ c.of_number.ensures) c.is_leaf.ensures
      c.if-not-is_leaf.false c.loop-number.invariant.accepted;
}

pub returns-else-not-is_leaf-clause-none : goal.returns-else-not-is_leaf-clause-none
returns-else-not-is_leaf-clause-none c = λ e n w.
    one_more (plain_format c.args.format.now) c.args.low c.loop-number.number c.as_slice.result.now c.is_leaf.result (c.as_slice.ensures ∙ c.of_number.ensures) c.is_leaf.ensures
    c.if-not-is_leaf.false c.loop-number.invariant.accepted
    n w.0 (omega (arith, w.1))
