use Rattle.std.proofs.Common.{refl, inr}
use Rattle.dia_mask.proofs.Numbers.{bytes_put}
use Rattle.dia_mask.proofs.words.Words.begin_bytes.Goals as goal

pub returns : goal.returns
returns c =
    bytes_put c.args.self.now (record { texts = c.args.self.now.texts; bytes = c.insert.new.self }) c.args.word.now c.in_ok-number.number c.new-numbered.result c.number.new.self c.in_ok-number.ensures
    refl (inr (c.requires, c.new-numbered.ensures)) c.in_ok-insert.ensures.updates
