use Rattle.std.proofs.Common.{ℕ, ap, sym, ◌∙◌}
use Rattle.std.specs.Prelude.{◌==◌}
use Rattle.std.specs.List.{list_any}
use Rattle.dia_dict.proofs.Indexing.Premises.{command_heads-held}
use Rattle.dia_dict.proofs.Indexing.Selectors.{service-found}
use Rattle.dia_book.specs.Opened.{opened}
use Rattle.dia_dict.proofs.BookRows.{held, has_command-held}
use Rattle.dia_dict.proofs.indexed_book.IndexedBookBook.has_command.Goals as goal

pub returns : goal.returns
returns c =
    let b = c.args.self.now in
    let rows = b.book.entries.rows.items in
    let groups = b.book.entries.groups.items in
    let commands = b.book.commands.items in
    c.contains.ensures ∙ ap (λ (n : ℕ). list_any (λ (m : ℕ). n == m) b.services.keys) c.service.ensures
    ∙ service-found commands (command_heads-held rows groups commands (opened (held rows groups commands) b.book.sound)) b.services.keys b.served c.args.code c.args.class
    ∙ sym (has_command-held rows groups commands c.args.code c.args.class)
