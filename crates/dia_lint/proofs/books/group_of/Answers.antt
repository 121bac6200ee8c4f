use Rattle.std.proofs.Common.{◌<◌, ℕ, Option, length, sym, subst}
use Rattle.std.specs.Prelude.{IfSome}
use Rattle.dia_book.specs.Dictionary.{definitions}
use Rattle.dia_valid.proofs.GroupNumbers.{group_within}
use Rattle.dia_lint.proofs.books.group_of.Goals as goal

pub returns-clause-within : goal.returns-clause-within
returns-clause-within g c =
    let d = g.B.Book.meaning c.args.book.now in
    subst (λ (o : Option ℕ). IfSome o (λ x. x < length (definitions d))) (sym c.group.ensures) (group_within d c.args.entry)
