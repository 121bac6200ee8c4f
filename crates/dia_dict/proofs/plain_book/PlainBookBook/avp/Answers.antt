use Rattle.std.proofs.Common.{List, ℕ, Some, sym, ap, ◌∙◌, position}
use Rattle.dia_book.specs.Keys.{same_key}
use Rattle.dia_dict.specs.declared.entry_list.Row.{Row}
use Rattle.dia_dict.proofs.BookRows.{entry_of-held}
use Rattle.dia_dict.proofs.plain_book.PlainBookBook.avp.Goals as goal

pub returns-in_err-index : goal.returns-in_err-index
returns-in_err-index c =
    let b = c.args.self.now in
    c.from_residual.ensures ∙ c.in_err-index.ensures ∙ ap (λ (rows : List Row). position (λ row. same_key c.args.key row.key) rows) c.deref.ensures.value
    ∙ sym (entry_of-held b.entries.rows.items b.entries.groups.items b.commands.items c.args.key)

pub returns : goal.returns
returns c =
    let b = c.args.self.now in
    ap (λ (i : ℕ). Some i) c.new.ensures ∙ c.in_ok-index.ensures ∙ ap (λ (rows : List Row). position (λ row. same_key c.args.key row.key) rows) c.deref.ensures.value
    ∙ sym (entry_of-held b.entries.rows.items b.entries.groups.items b.commands.items c.args.key)
