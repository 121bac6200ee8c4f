use Rattle.std.proofs.Common.{sym, ◌∙◌}
use Rattle.std.proofs.lemmas.Bool.{true≢false}
use Rattle.std.proofs.lemmas.Result.{on_ok_weaker}
use Rattle.dia_data.specs.Plain.{plain_format}
use Rattle.dia_data.specs.Shown.{hexadecimal}
use Rattle.dia_text.proofs.ShownWords.{other_word}
use Rattle.dia_text.proofs.pushing.push_known.Goals as goal

pub returns-else-eq : goal.returns-else-eq
returns-else-eq c =
    let other = other_word c.accepts.result (plain_format c.args.format.now) c.args.bytes.now (λ e. true≢false (sym (rw e at c.eq.ensures) ∙ c.if-eq.false)) c.accepts.ensures in
    on_ok_weaker c.push_hexadecimal.result (λ e. (hexadecimal c.args.bytes.now, other, e)) c.push_hexadecimal.ensures
