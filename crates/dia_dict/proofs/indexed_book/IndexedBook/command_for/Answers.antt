use Rattle.std.proofs.Common.{ℕ, ◌+◌, length, position, Some, None, ap, sym, ◌∙◌}
use Rattle.std.specs.Option.{option_map}
use Rattle.dia_book.specs.declared.Definition.{Definition}
use Rattle.dia_book.specs.Dictionary.{is_command}
use Rattle.dia_book.specs.Opened.{opened}
use Rattle.dia_dict.proofs.BookRows.{held}
use Rattle.dia_dict.proofs.Indexing.Applications.{selected-general}
use Rattle.dia_dict.proofs.Indexing.Maps.{option_map-or}
use Rattle.dia_dict.proofs.Indexing.Premises.{command_heads-held}
use Rattle.dia_dict.proofs.indexed_book.IndexedBook.command_for.Goals as goal

pub returns-else-self : goal.returns-else-self
returns-else-self c =
    let b = c.args.self.now in
    let rows = b.book.entries.rows.items in
    let groups = b.book.entries.groups.items in
    let commands = b.book.commands.items in
    let heads = command_heads-held rows groups commands (opened (held rows groups commands) b.book.sound) in
    let number = option_map (λ (i : ℕ). length groups + i) in
    ap number (selected-general commands heads (sym b.applied ∙ c.if-self.false) c.args.code c.args.class c.args.app)
    ∙ option_map-or (λ (i : ℕ). length groups + i) (position (λ (d : Definition). is_command c.args.code c.args.class (Some c.args.app) d.head) commands)
    (position (λ (d : Definition). is_command c.args.code c.args.class None d.head) commands)
