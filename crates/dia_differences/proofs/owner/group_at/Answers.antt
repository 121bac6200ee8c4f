use Rattle.std.proofs.Common.{ap, ◌∙◌, arith}
use Rattle.dia_book.specs.Dictionary.{group_place}
use Rattle.dia_differences.proofs.Groups.{group_within}
use Rattle.dia_differences.proofs.owner.group_at.Goals as goal

pub returns-clause-within : goal.returns-clause-within
returns-clause-within g c =
    let d = g.B.Book.meaning c.args.book.now in
    group_within d c.args.index c.group.result (omega arith) (c.group.ensures ∙ ap (group_place d) c.entry_at-entry.ensures)
