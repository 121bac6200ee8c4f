use Rattle.std.proofs.Common.{refl, inr, length, replicate}
use Rattle.dia_data.specs.Plain.{plain_format}
use Rattle.dia_mask.specs.Replaced.{IsText}
use Rattle.dia_mask.proofs.Replacing.{puts_same}
use Rattle.dia_mask.proofs.texts.Masking.push_accepted.Goals as goal

pub returns-in_ok-push_many-in-None : goal.returns-in_ok-push_many-in-None
returns-in_ok-push_many-in-None c =
    let old = c.args.self.now in
    puts_same (λ numbers. IsText numbers (plain_format c.args.format.now) c.args.refused c.args.bytes.now) old
    (record { words = old.words; word = old.word; pattern = old.pattern; kinds = old.kinds; characters = old.characters; masked = old.masked; «data» = c.push_many.new.out })
    (replicate (length c.args.bytes.now) c.args.refused) refl (λ numbers. inr (c.in-None.ensures.none refl, refl)) c.in_ok-push_many-in-None.ensures
