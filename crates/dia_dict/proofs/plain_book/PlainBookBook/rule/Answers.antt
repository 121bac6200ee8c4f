use Rattle.std.proofs.Common.{map, refl}
use Rattle.dia_book.specs.Dictionary.{plain_definition}
use Rattle.dia_dict.proofs.BookRows.{at_row}
use Rattle.dia_dict.proofs.plain_book.PlainBookBook.rule.Goals as goal

pub returns : goal.returns
returns c =
    let entries = c.args.self.now.entries in
    at_row _ (map plain_definition entries.groups.items) entries.rows.items c.index.result c.args.entry c.index-2.result.now c.index.ensures c.requires c.index-2.ensures refl
