use Rattle.std.proofs.Common.{refl, arith}
use Rattle.dia_make.specs.Shown.{written, bad_message}
use Rattle.dia_make.proofs.ReadsBack.{one_made}
use Rattle.dia_make.proofs.Shown.{cut_ends}
use Rattle.dia_text.proofs.NoTexts.{bytes_from}
use Rattle.dia_make.proofs.showing.text_of.Goals as goal

pub returns-in-Ok-clause-outcome : goal.returns-in-Ok-clause-outcome
returns-in-Ok-clause-outcome g c =
    written c.in-Ok.ensures.text (one_made _ _ _ (g.met.B.Book.sound c.args.book.now) (bytes_from c.args.message.now (λ k. omega (arith, c.type_inv.message k))) c.in-Ok.ensures.text) refl

pub returns-in-Err-Message-clause-outcome : goal.returns-in-Err-Message-clause-outcome
returns-in-Err-Message-clause-outcome g c =
    rw c.from.ensures (bad_message c.in-Err-Message.fault (rw c.in-Err-Message.field-0-is at c.in-Err-Message.ensures.refused) (refl, refl))

pub returns-in_ok-cut-in-Err-Avps-clause-outcome : goal.returns-in_ok-cut-in-Err-Avps-clause-outcome
returns-in_ok-cut-in-Err-Avps-clause-outcome g c =
    cut_ends _ _ c.in_ok-cut-in-Err-Avps.field-0 (rw c.in-Err-Avps.field-0-is at c.in-Err-Avps.ensures.refused) c.in_ok-cut-in-Err-Avps.ensures.cut c.in_ok-cut-in-Err-Avps.ensures.exit
