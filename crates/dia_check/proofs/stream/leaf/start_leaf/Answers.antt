use Rattle.std.proofs.Common.{sym, subst, ◌∙◌}
use Rattle.std.specs.Prelude.{◌≡◌, Option, [], IfSome}
use Rattle.dia_data.specs.Plain.{PlainFormat, plain_format}
use Rattle.dia_data.specs.State.{DenotesData}
use Rattle.dia_book.specs.Dictionary.{DictEntry}
use Rattle.dia_valid.proofs.Entries.{entry_here}
use Rattle.dia_check.proofs.stream.leaf.start_leaf.Goals as goal

pub returns-in-Some : goal.returns-in-Some
returns-in-Some g c = λ leaf.
    let (e, at, same) = entry_here (g.B.Book.meaning c.args.book.now) c.args.key c.in-Some.entry (sym c.in-Some.is ∙ c.requires) in
    let format = subst (λ (o : Option DictEntry). IfSome o (λ x. plain_format c.format.result.now ≡ x.format)) at c.format.ensures in
    (e, same, leaf e same, subst (λ (f : PlainFormat). DenotesData c.start.result f []) format c.start.ensures)
