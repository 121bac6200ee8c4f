use Rattle.std.proofs.lemmas.Result.{on_ok_weaker}
use Rattle.dia_text.proofs.Pushed.{words_pushed}
use Rattle.dia_text.proofs.pushing.push_number.Goals as goal

pub returns : goal.returns
returns c =
    on_ok_weaker c.push_decimal.result (λ e. words_pushed _ _ _ _ _ _ _ c.in_ok-push_str.ensures.bytes c.in_ok-push_str-2.ensures.bytes c.in_ok-push_str-3.ensures.bytes e)
    (rw c.from.ensures at c.push_decimal.ensures)
