use Rattle.std.proofs.Common.{refl}
use Rattle.std.proofs.lemmas.Result.{IfOk-weaker}
use Rattle.dia_follow_text.specs.declared.entry.BadLine.TheVariants.{TooLong}
use Rattle.dia_follow_text.specs.Outcome.{refused, too_long}
use Rattle.dia_follow_text.proofs.answering.answer_line.Goals as goal

pub returns-in_default : goal.returns-in_default
returns-in_default g c = (refused TooLong, too_long (c.in_default.ensures.none refl) refl, (refl, refl))

pub returns : goal.returns
returns g c = IfOk-weaker c.answer_words.result _ _ (λ bad h. let (is, says, reach) = h in (is, says c.args.line.now c.in-Some.ensures.some, reach)) c.answer_words.ensures
