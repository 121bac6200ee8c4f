use Rattle.std.proofs.lemmas.Result.{on_ok_weaker}
use Rattle.std.proofs.Common.{◌≡◌, List, ℕ, refl}
use Rattle.dia_diff_text.specs.Parts.{command_at}
use Rattle.dia_diff_text.proofs.AddedTexts.{adds_text}
use Rattle.dia_diff_text.proofs.sides.push_command.Goals as goal

pub returns : goal.returns
returns g c =
    let words = command_at (g.D.Book.meaning c.args.book.now) c.args.index c.args.field in
    on_ok_weaker c.push_command_words.result (adds_text (λ (text : List ℕ). text ≡ words) c.args.out.now c.push_command_words.new.out words refl) c.push_command_words.ensures
