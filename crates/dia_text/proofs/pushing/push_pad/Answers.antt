use Rattle.std.proofs.Common.{sym, ◌∙◌}
use Rattle.std.proofs.lemmas.Result.{on_ok_weaker}
use Rattle.dia_text.proofs.Pushed.{pad_pushed}
use Rattle.dia_text.proofs.pushing.push_pad.Goals as goal

pub returns : goal.returns
returns c = rw (sym c.is_padding.ensures ∙ c.if-is_padding.false) (on_ok_weaker c.push_hexadecimal.result (λ e. pad_pushed _ _ _ _ c.in_ok-push_str.ensures.bytes e) c.push_hexadecimal.ensures)
