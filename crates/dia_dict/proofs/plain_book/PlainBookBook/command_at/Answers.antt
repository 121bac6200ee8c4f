use Rattle.std.proofs.Common.{arith}
use Rattle.std.proofs.lemmas.List.{length-map}
use Rattle.dia_book.specs.Dictionary.{plain_definition}
use Rattle.dia_dict.proofs.BookRows.{length-groups-held, groups_fit}
use Rattle.dia_dict.proofs.plain_book.PlainBookBook.command_at.Goals as goal

pub new-requires : goal.new-requires
new-requires c =
    let b = c.args.self.now in
    omega (arith, groups_fit b.entries.rows.items b.entries.groups.items b.entries.numbered, b.few, c.requires, length-map b.commands.items plain_definition)

pub returns : goal.returns
returns c =
    let b = c.args.self.now in
    omega (arith, length-groups-held b.entries.rows.items b.entries.groups.items b.commands.items b.entries.numbered)
