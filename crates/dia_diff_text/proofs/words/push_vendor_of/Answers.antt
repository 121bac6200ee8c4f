use Rattle.std.proofs.lemmas.Result.{on_ok_weaker}
use Rattle.std.proofs.Common.{◌≡◌, List, ℕ, refl}
use Rattle.std.specs.Prelude.{OnOk}
use Rattle.dia_book.specs.Dictionary.{DictEntry}
use Rattle.std.specs.Fmt.{decimal}
use Rattle.dia_wire.specs.declared.Key.{Key}
use Rattle.dia_diff_text.specs.Words.{AddsText}
use Rattle.dia_diff_text.proofs.AddedTexts.{adds_text, of_field}
use Rattle.dia_diff_text.proofs.words.push_vendor_of.Goals as goal

pub returns : goal.returns
returns g c =
    of_field (λ (e : DictEntry). e.key) (λ (v : Key). OnOk c.push_number.result (AddsText c.args.out.now c.push_number.new.out (λ (text : List ℕ). text ≡ decimal v.vendor))) (g.D.Book.meaning c.args.book.now).entries c.args.entry c.entry_key.result c.entry_key.ensures
    (on_ok_weaker c.push_number.result (adds_text (λ (text : List ℕ). text ≡ decimal c.entry_key.result.vendor) c.args.out.now c.push_number.new.out (decimal c.entry_key.result.vendor) refl) c.push_number.ensures)
