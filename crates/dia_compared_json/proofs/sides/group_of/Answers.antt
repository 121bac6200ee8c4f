use Rattle.std.proofs.Common.{◌<◌, Option, ℕ, length, subst, sym}
use Rattle.std.specs.Prelude.{IfSome}
use Rattle.dia_book.specs.Dictionary.{definitions}
use Rattle.dia_valid.proofs.GroupNumbers.{group_within}
use Rattle.dia_compared_json.proofs.sides.group_of.Goals as goal

pub def-requires : goal.def-requires
def-requires g c =
    let d = g.B.Book.meaning c.args.book.now in
    subst (λ (o : Option ℕ). IfSome o (λ x. x < length (definitions d))) (sym c.in-Some.ensures) (group_within d c.args.entry)
