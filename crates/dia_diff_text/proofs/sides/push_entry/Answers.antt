use Rattle.std.proofs.Common.{Option, sym, subst}
use Rattle.std.specs.Prelude.{IfSome, OnOk, slice_get}
use Rattle.dia_data.specs.Plain.{plain_format}
use Rattle.dia_book.specs.Dictionary.{DictEntry}
use Rattle.dia_differences.specs.declared.lines.AvpField.{AvpField}
use Rattle.dia_diff_text.specs.Words.{AddsText, IsAvpWords}
use Rattle.dia_diff_text.proofs.AddedTexts.{declared}
use Rattle.dia_diff_text.proofs.sides.push_entry.Goals as goal

pub returns-in-None : goal.returns-in-None
returns-in-None g c =
    let entries = (g.D.Book.meaning c.args.book.now).entries in
    subst (λ (o : Option AvpField). IfSome (slice_get entries c.args.entry) (λ (e : DictEntry). OnOk c.push_declaration.result (AddsText c.args.out.now c.push_declaration.new.out (IsAvpWords o e)))) (sym c.in-None.is)
    (declared entries c.args.entry c.entry_key.result (plain_format c.format.result.now) c.rule.result c.push_declaration.result c.args.out.now c.push_declaration.new.out c.entry_key.ensures c.format.ensures c.rule.ensures c.push_declaration.ensures)
