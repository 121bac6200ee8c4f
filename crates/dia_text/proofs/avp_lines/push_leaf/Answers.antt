use Rattle.std.proofs.lemmas.Result.{on_ok_weaker}
use Rattle.dia_wire.specs.Wire.{plain_avp, avp_length}
use Rattle.dia_text.specs.LineTexts.{code_at, avp_word, avp_flags, pad_words}
use Rattle.dia_text.proofs.Pushed.{last_pushed, leaf_pushed}
use Rattle.dia_text.proofs.avp_lines.push_leaf.Goals as goal

pub returns : goal.returns
returns g c =
    let d = g.B.Book.meaning c.args.book.now in
    let v = plain_avp c.args.avp.now in
    let (word, is_word, pushed) = (rw (c.format_at.ensures, c.requires) at c.in_ok-push_value_word.ensures) in
    on_ok_weaker c.push_str-2.result
    (λ e. (
      word,
      is_word,
      leaf_pushed _ _ _ _ _ _ (avp_word d (code_at v)) word (avp_flags d v) (pad_words (avp_length v) c.args.pad.now)
          (rw c.requires at c.in_ok-push_head.ensures) c.in_ok-push_str.ensures.bytes pushed
          (rw c.length.ensures at c.in_ok-push_pad.ensures) e,
    )) (last_pushed _ _ _ _ c.push_str-2.ensures.bytes)
