use Rattle.std.proofs.Common.{sym, ◌∙◌}
use Rattle.dia_dict.proofs.BookRows.{entry_of-held}
use Rattle.dia_dict.proofs.indexed_book.IndexedBookBook.avp.Goals as goal

pub returns : goal.returns
returns c =
    let b = c.args.self.now in
    c.get.ensures ∙ b.known c.args.key
    ∙ sym (entry_of-held b.book.entries.rows.items b.book.entries.groups.items b.book.commands.items c.args.key)
