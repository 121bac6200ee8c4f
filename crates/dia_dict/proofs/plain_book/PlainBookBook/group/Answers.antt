use Rattle.std.proofs.Common.{ℕ, Some, arith, sym, ap, ◌∙◌}
use Rattle.dia_dict.proofs.BookRows.{group_of-held, groups_fit, read_row}
use Rattle.dia_dict.proofs.plain_book.PlainBookBook.group.Goals as goal

pub new-requires : goal.new-requires
new-requires c =
    let b = c.args.self.now in
    let at = read_row b.entries.rows.items b.entries.groups.items c.args.entry c.index.result c.index-2.result.now c.index.ensures c.requires c.index-2.ensures in
    let within = (group_of-held b.entries.rows.items b.entries.groups.items b.commands.items b.entries.numbered c.args.entry c.index-2.result.now at).1 c.in_ok-index.index c.in_ok-index.was in
    omega (arith, within, groups_fit b.entries.rows.items b.entries.groups.items b.entries.numbered, b.few)

pub returns : goal.returns
returns c =
    let b = c.args.self.now in
    let at = read_row b.entries.rows.items b.entries.groups.items c.args.entry c.index.result c.index-2.result.now c.index.ensures c.requires c.index-2.ensures in
    let found = (group_of-held b.entries.rows.items b.entries.groups.items b.commands.items b.entries.numbered c.args.entry c.index-2.result.now at).0 in
    ap (λ (i : ℕ). Some i) c.new.ensures ∙ sym (found ∙ c.in_ok-index.was)
