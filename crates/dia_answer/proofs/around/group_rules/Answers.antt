use Rattle.std.proofs.Common.{sym, ◌∙◌}
use Rattle.dia_book.specs.Dictionary.{plain_definition}
use Rattle.dia_answer.proofs.Groups.{group_within, known_rules}
use Rattle.dia_answer.proofs.around.group_rules.Goals as goal

pub def-requires : goal.def-requires
def-requires g c = group_within (g.B.Book.meaning c.args.book.now) c.args.key c.in_ok-entry.entry c.in_ok-group.group (sym c.in_ok-entry.was ∙ c.avp.ensures) (sym c.in_ok-group.was ∙ c.group.ensures)

pub returns : goal.returns
returns g c =
    known_rules (g.B.Book.meaning c.args.book.now) c.args.key c.in_ok-entry.entry c.in_ok-group.group (plain_definition c.def.result.now) c.deref.result.now (sym c.in_ok-entry.was ∙ c.avp.ensures)
    (sym c.in_ok-group.was ∙ c.group.ensures) c.def.ensures c.deref.ensures.value
