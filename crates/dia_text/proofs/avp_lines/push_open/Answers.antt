use Rattle.std.proofs.lemmas.Result.{on_ok_weaker}
use Rattle.dia_wire.specs.Wire.{plain_avp}
use Rattle.dia_text.specs.LineTexts.{code_at, avp_word, avp_flags}
use Rattle.dia_text.proofs.Pushed.{last_pushed, open_pushed}
use Rattle.dia_text.proofs.avp_lines.push_open.Goals as goal

pub returns : goal.returns
returns g c =
    let d = g.B.Book.meaning c.args.book.now in
    let v = plain_avp c.args.avp.now in
    on_ok_weaker c.push_str.result (λ e. open_pushed _ _ _ (avp_word d (code_at v)) (avp_flags d v) (rw c.requires at c.in_ok-push_head.ensures) e)
    (last_pushed _ _ _ _ c.push_str.ensures.bytes)
