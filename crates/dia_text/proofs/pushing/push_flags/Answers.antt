use Rattle.std.proofs.Common.{sym, ◌∙◌}
use Rattle.std.proofs.lemmas.Result.{on_ok_weaker}
use Rattle.dia_text.proofs.Pushed.{flags_pushed}
use Rattle.dia_text.proofs.pushing.push_flags.Goals as goal

pub returns : goal.returns
returns c = rw (sym c.is_default.ensures ∙ c.if-is_default.false) (on_ok_weaker c.push_hex_byte.result (λ e. flags_pushed _ _ _ _ c.in_ok-push_str.ensures.bytes e) c.push_hex_byte.ensures)
