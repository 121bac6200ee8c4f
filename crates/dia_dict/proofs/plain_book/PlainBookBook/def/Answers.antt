use Rattle.std.proofs.Common.{◌≡◌, ◌+◌, ◌-◌, ◌<◌, length, arith, ap, ◌∙◌}
use Rattle.std.specs.Option.{option_map}
use Rattle.dia_book.specs.Dictionary.{plain_definition}
use Rattle.dia_dict.proofs.BookRows.{definitions-held, length-definitions-held, group_at, command_at}
use Rattle.dia_dict.proofs.plain_book.PlainBookBook.def.Goals as goal

pub index-requires-else-index-len : goal.index-requires-else-index-len
index-requires-else-index-len c =
    let b = c.args.self.now in
    omega (arith, length-definitions-held b.entries.rows.items b.entries.groups.items b.commands.items b.entries.numbered, c.requires, b.entries.groups.ok.0, b.commands.ok.0)

pub returns-then-index-len : goal.returns-then-index-len
returns-then-index-len c =
    let b = c.args.self.now in
    definitions-held b.entries.rows.items b.entries.groups.items b.commands.items b.entries.numbered c.args.def
    ∙ ap (option_map plain_definition) (group_at b.entries.groups.items b.commands.items c.args.def c.index-index.result c.index.result.now c.index-index.ensures
    (omega (arith, b.entries.groups.ok.0)) c.index.ensures)

pub returns-else-index-len : goal.returns-else-index-len
returns-else-index-len c =
    let b = c.args.self.now in
    let n : c.len-else-index-len.result ≡ length b.entries.groups.items = omega (arith, b.entries.groups.ok.0) in
    let within : c.args.def < length b.entries.groups.items + length b.commands.items = omega (
      arith,
      length-definitions-held b.entries.rows.items b.entries.groups.items b.commands.items b.entries.numbered,
      c.requires,
    ) in
    definitions-held b.entries.rows.items b.entries.groups.items b.commands.items b.entries.numbered c.args.def
    ∙ ap (option_map plain_definition) (command_at b.entries.groups.items b.commands.items c.args.def
    (c.index-index.result - c.len-else-index-len.result) c.index-else-index-len.result.now (omega (arith, n)) within c.index-else-index-len.ensures)
