use Rattle.std.proofs.Common.{Bool, sym, subst}
use Rattle.std.specs.Prelude.{◌↔◌, IsTrue}
use Rattle.dia_reading.specs.Messages.{IsLikely}
use Rattle.dia_reading.proofs.Likely.{likely_or_not}
use Rattle.dia_reading.proofs.messages.is_likely.Goals as goal

pub returns : goal.returns
returns c =
    let h = c.likely_length.ensures in
    subst (λ (b : Bool). IsTrue b ↔ IsLikely c.args.bytes.now) (sym c.is_some.ensures) (likely_or_not c.args.bytes.now c.likely_length.result h.some h.none)
