use Rattle.std.proofs.lemmas.Result.{on_ok_weaker}
use Rattle.std.proofs.Common.{◌≡◌, List, ℕ, refl}
use Rattle.std.specs.Prelude.{OnOk}
use Rattle.dia_book.specs.Dictionary.{DictEntry}
use Rattle.dia_diff_text.specs.Words.{AddsText}
use Rattle.dia_diff_text.proofs.AddedTexts.{adds_text, of_field}
use Rattle.dia_diff_text.proofs.words.push_name.Goals as goal

pub returns : goal.returns
returns g c =
    of_field (λ (e : DictEntry). e.name) (λ (v : List ℕ). OnOk c.push_text.result (AddsText c.args.out.now c.push_text.new.out (λ (text : List ℕ). text ≡ v))) (g.D.Book.meaning c.args.book.now).entries c.args.entry c.entry_name.result.now c.entry_name.ensures
    (on_ok_weaker c.push_text.result (adds_text (λ (text : List ℕ). text ≡ c.entry_name.result.now) c.args.out.now c.push_text.new.out c.entry_name.result.now refl) c.push_text.ensures)
