use Rattle.std.proofs.Common.{ℕ, ◌+◌, length, ap, ◌∙◌}
use Rattle.std.specs.Option.{option_map}
use Rattle.indexmap.specs.IndexMap.{get}
use Rattle.dia_book.specs.Opened.{opened}
use Rattle.dia_dict.specs.declared.selectors.Selector.{Selector}
use Rattle.dia_dict.specs.Selectors.{selector}
use Rattle.dia_dict.proofs.BookRows.{held}
use Rattle.dia_dict.proofs.Indexing.Premises.{command_heads-held}
use Rattle.dia_dict.specs.SameSelectors.{same_selector}
use Rattle.dia_dict.proofs.Indexing.Selectors.{command_place-selected}
use Rattle.dia_dict.proofs.indexed_book.IndexedBook.command.Goals as goal

pub returns : goal.returns
returns c =
    let b = c.args.self.now in
    let rows = b.book.entries.rows.items in
    let groups = b.book.entries.groups.items in
    let commands = b.book.commands.items in
    let heads = command_heads-held rows groups commands (opened (held rows groups commands) b.book.sound) in
    c.copied.ensures ∙ c.get.ensures.value ∙ ap (λ (s : Selector). get same_selector b.commands s) c.new.ensures
    ∙ b.selected (selector c.args.code c.args.class c.args.app)
    ∙ ap (option_map (λ (i : ℕ). length groups + i)) (command_place-selected commands heads c.args.code c.args.class c.args.app)
