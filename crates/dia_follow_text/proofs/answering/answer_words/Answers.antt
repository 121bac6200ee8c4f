use Rattle.std.proofs.Common.{refl, sym}
use Rattle.std.proofs.lemmas.Result.{IfOk-weaker}
use Rattle.dia_follow_text.specs.Outcome.{nothing, refused, no_entry}
use Rattle.dia_follow_text.proofs.answering.answer_words.Goals as goal

pub returns-in-Ok-Some : goal.returns-in-Ok-Some
returns-in-Ok-Some g c = IfOk-weaker c.answer_entry.result _ _
    (λ bad h.
    let (is, says, reach) = h in
    (is, λ input holds. says input c.args.words.now holds (sym (rw c.in-Ok-Some.field-0-is at c.in-Ok-Some.ensures)), reach))
    c.answer_entry.ensures

pub returns-in-Ok-None : goal.returns-in-Ok-None
returns-in-Ok-None g c = (nothing, λ input holds. (c.args.words.now, holds, sym (rw c.in-Ok-None.field-0-is at c.in-Ok-None.ensures)), refl)

pub returns-in-Err : goal.returns-in-Err
returns-in-Err g c = (refused c.in-Err.bad, λ input holds. no_entry c.args.words.now holds (sym c.in-Err.ensures), (refl, refl))
