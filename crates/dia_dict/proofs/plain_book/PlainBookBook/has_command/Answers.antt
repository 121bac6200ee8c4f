use Rattle.std.proofs.Common.{List, sym, ap, ◌∙◌}
use Rattle.std.specs.List.{list_any}
use Rattle.dia_book.specs.Dictionary.{has_class}
use Rattle.dia_book.specs.declared.Definition.{Definition}
use Rattle.dia_dict.proofs.BookRows.{has_command-held}
use Rattle.dia_dict.proofs.plain_book.PlainBookBook.has_command.Goals as goal

pub returns : goal.returns
returns c =
    let b = c.args.self.now in
    c.is_served.ensures ∙ ap (λ (ds : List Definition). list_any (λ d. has_class c.args.code c.args.class d.head) ds) c.deref.ensures.value
    ∙ sym (has_command-held b.entries.rows.items b.entries.groups.items b.commands.items c.args.code c.args.class)
