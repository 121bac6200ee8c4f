use Rattle.std.proofs.Common.{ℕ, ◌≡◌, ◌+◌, length, position, Some, None, sym, ◌∙◌}
use Rattle.std.specs.Option.{option_or}
use Rattle.dia_book.specs.declared.Class.{Class}
use Rattle.dia_book.specs.declared.Definition.{Definition}
use Rattle.dia_book.specs.Dictionary.{is_command, selected}
use Rattle.dia_dict.specs.Indexed.{command_number}
use Rattle.dia_dict.specs.declared.plain_book.PlainBook.{PlainBook}
use Rattle.dia_dict.proofs.BookRows.{held, selected-held}
use Rattle.dia_dict.proofs.Indexing.Maps.{option_map-or}
use Rattle.dia_dict.proofs.indexed_book.IndexedBookBook.select.Goals as goal

joined : (b : PlainBook) (code : ℕ) (class : Class) (app : ℕ) → option_or (command_number b code class (Some app)) (command_number b code class None)
    ≡ selected (held b.entries.rows.items b.entries.groups.items b.commands.items) code class app
joined b code class app =
    let groups = b.entries.groups.items in
    let commands = b.commands.items in
    sym (option_map-or (λ (i : ℕ). length groups + i) (position (λ (d : Definition). is_command code class (Some app) d.head) commands)
    (position (λ (d : Definition). is_command code class None d.head) commands))
    ∙ sym (selected-held b.entries.rows.items groups commands b.entries.numbered code class app)

pub returns-in-Some : goal.returns-in-Some
returns-in-Some c =
    let b = c.args.self.now.book in
    c.in-Some.ensures ∙ joined b c.args.code c.args.class c.args.app

pub returns-in-None : goal.returns-in-None
returns-in-None c =
    let b = c.args.self.now.book in
    c.command.ensures ∙ c.in-None.ensures ∙ joined b c.args.code c.args.class c.args.app
