use Rattle.std.specs.Prelude.{OnOk}
use Rattle.dia_data.specs.Plain.{PlainFormat, plain_format}
use Rattle.dia_book.specs.Dictionary.{DictEntry}
use Rattle.dia_diff_text.specs.Words.{AddsText, IsFormat}
use Rattle.dia_diff_text.proofs.AddedTexts.{of_field}
use Rattle.dia_diff_text.proofs.words.push_format_of.Goals as goal

pub returns : goal.returns
returns g c =
    of_field (λ (e : DictEntry). e.format) (λ (f : PlainFormat). OnOk c.push_format.result (AddsText c.args.out.now c.push_format.new.out (IsFormat f))) (g.D.Book.meaning c.args.book.now).entries c.args.entry (plain_format c.format.result.now) c.format.ensures c.push_format.ensures
