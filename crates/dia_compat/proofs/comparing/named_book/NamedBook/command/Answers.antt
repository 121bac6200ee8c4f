use Rattle.std.proofs.Common.{ap, ◌∙◌}
use Rattle.dia_book.specs.Dictionary.{Dictionary, PlainDefinition}
use Rattle.dia_compat.specs.PairTests.{command_named}
use Rattle.dia_compat.proofs.SetsOfNames.{place_by_name}
use Rattle.dia_compat.proofs.comparing.named_book.NamedBook.command.Goals as goal

pub returns : goal.returns
returns g c =
    let named = c.self.inside in
    (rw c.deref.ensures at c.get_index_of.ensures.index)
    ∙ place_by_name (λ (x : PlainDefinition). x.name) (g.B.Book.meaning named.book.now).commands named.commands.value.keys c.args.name.now c.self.invariant.1
    ∙ ap (λ (d : Dictionary). command_named d c.args.name.now) c.self.view_is
