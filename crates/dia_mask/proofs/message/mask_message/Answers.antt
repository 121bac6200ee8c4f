use Rattle.std.proofs.lemmas.Result.{on_ok_weaker}
use Rattle.dia_mask.specs.Texts.{numbers_of}
use Rattle.dia_mask.proofs.Characters.{agrees_with_own}
use Rattle.dia_mask.proofs.Judged.{judged_added}
use Rattle.dia_mask.proofs.message.mask_message.Goals as goal

pub returns-clause-verdict : goal.returns-clause-verdict
returns-clause-verdict g c =
    let words = c.mask_bytes.new.run.masking.words in
    judged_added c.mask_bytes.result c.args.choice.now (numbers_of words) (g.B.Book.meaning c.args.book.now) c.args.bytes.now _ _ (g.met.B.Book.sound c.args.book.now)
    (on_ok_weaker c.mask_bytes.result (λ masked. masked (numbers_of words) (agrees_with_own words)) c.mask_bytes.ensures.masked)
