use Rattle.std.proofs.Common.{◌∙◌, sym}
use Rattle.dia_wire.specs.Wire.{key_of}
use Rattle.dia_book.specs.Keys.{same_key}
use Rattle.dia_answer.proofs.Those.{find_here, find_more}
use Rattle.dia_answer.proofs.stock.first_of.Goals as goal

pub returns-then-has_key : goal.returns-then-has_key
returns-then-has_key c =
    find_here (λ v. same_key (key_of v) c.args.wanted) c.args.avps.now c.loop-avp.avp-index c.avp-item.result c.loop-avp.invariant c.loop-avp-test.true c.avp-item.is (sym c.has_key.ensures ∙ c.if-has_key.true)

pub loop-avp-preserved : goal.loop-avp-preserved
loop-avp-preserved c =
    find_more (λ v. same_key (key_of v) c.args.wanted) c.args.avps.now c.loop-avp.avp-index c.avp-item.result c.loop-avp.invariant c.loop-avp-test.true c.avp-item.is (sym c.has_key.ensures ∙ c.if-has_key.false)
