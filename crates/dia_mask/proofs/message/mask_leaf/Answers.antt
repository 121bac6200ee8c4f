use Rattle.std.proofs.lemmas.Result.{on_ok_weaker}
use Rattle.dia_wire.specs.Wire.{plain_avp}
use Rattle.dia_mask.proofs.Messages.{leaf_put, leaf_stays, masked_as}
use Rattle.dia_mask.proofs.message.mask_leaf.Goals as goal

pub returns-then-masks_avp-clause-masked : goal.returns-then-masks_avp-clause-masked
returns-then-masks_avp-clause-masked g c =
    on_ok_weaker c.push_replaced.result (λ put numbers agrees. leaf_put numbers _ _ _ c.args.padding.now _ _
    (masked_as c.args.choice.now (g.B.Book.meaning c.args.book.now) (plain_avp c.args.avp.now) _ _ _ _ c.masks_avp.ensures c.avp-entry.ensures c.key.ensures c.if-masks_avp.true)
    (put numbers agrees)) c.push_replaced.ensures.put

pub returns-else-masks_avp-clause-masked : goal.returns-else-masks_avp-clause-masked
returns-else-masks_avp-clause-masked g c =
    on_ok_weaker c.push_both.result (λ added numbers agrees. leaf_stays numbers _ _ c.args.avp.now.bytes.now c.args.padding.now _ _
    (masked_as c.args.choice.now (g.B.Book.meaning c.args.book.now) (plain_avp c.args.avp.now) _ _ _ _ c.masks_avp.ensures c.avp-entry.ensures c.key.ensures c.if-masks_avp.false)
    added) c.push_both.ensures
