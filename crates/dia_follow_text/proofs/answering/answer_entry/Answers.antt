use Rattle.std.proofs.Common.{◌≡◌, ℕ, List, Ok, take, refl, sym, subst, ap}
use Rattle.std.specs.Prelude.{IsOk}
use Rattle.hex.specs.Hex.{decode_of}
use Rattle.dia_follow_text.specs.declared.entry.BadLine.TheVariants.{NotHexadecimal}
use Rattle.dia_follow_text.specs.Entries.{PlainEntry}
use Rattle.dia_follow_text.specs.Outcome.{captured, refused, no_bytes}
use Rattle.dia_follow_text.proofs.answering.answer_entry.Goals as goal

pub returns-in_ok-answer_message-in-Some : goal.returns-in_ok-answer_message-in-Some
returns-in_ok-answer_message-in-Some g c =
    let (m, says, is) = c.in_ok-answer_message-in-Some.ensures in
    let spelled = rw c.in-Some.is at c.in_ok-spelled.ensures.spelled in
    let spells = subst (λ items. decode_of c.entry.inside.digits.now ≡ Ok (take c.in-Some.count items)) (sym c.deref.ensures.value) spelled in
    let spells_entry = subst (λ (digits : List ℕ). decode_of digits ≡ Ok (take c.in-Some.count c.deref.result.now)) (ap (λ (e : PlainEntry). e.digits) c.entry.view_is) spells in
    (captured m, λ input words holds entry. (words, holds, says words entry spells_entry), sym is)

pub returns-in-None : goal.returns-in-None
returns-in-None g c =
    let none = rw c.in-None.is at c.in_ok-spelled.ensures.none in
    let badly = subst (λ (digits : List ℕ). ¬ IsOk (decode_of digits)) (ap (λ (e : PlainEntry). e.digits) c.entry.view_is) (none refl) in
    (refused NotHexadecimal, λ input words holds entry. no_bytes words c.args.entry.now holds entry badly refl, (refl, refl))
