use Rattle.std.proofs.Common.{ap, map, sym, ◌∙◌}
use Rattle.dia_show.specs.Words.{plain_word}
use Rattle.dia_show.proofs.WordLists.{insert_plain}
use Rattle.dia_make.proofs.Looked.{entry_again, entry_more}
use Rattle.dia_make.proofs.tables.Table.add.Goals as goal

pub returns-in-Some : goal.returns-in-Some
returns-in-Some c = λ entries are. entry_again c.args.self.now entries c.args.name.now c.args.key.now c.args.text.now c.in-Some.field-0.now (sym c.in-Some.ensures) are

pub returns-in_ok-insert-in-None : goal.returns-in_ok-insert-in-None
returns-in_ok-insert-in-None c = λ entries are.
    entry_more c.args.self.now (record { found = c.insert.new.self }) entries ((c.args.name.now, c.args.key.now), c.args.text.now)
    (ap (map plain_word) c.in_ok-insert-in-None.ensures.entries ∙ insert_plain c.args.self.now.found.entries (c.args.name, c.args.key) c.args.text (sym c.in-None.ensures)) are
