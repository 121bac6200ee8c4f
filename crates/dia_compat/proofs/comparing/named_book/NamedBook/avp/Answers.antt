use Rattle.std.proofs.Common.{Some, ℕ, ap, ◌∙◌}
use Rattle.dia_book.specs.Dictionary.{Dictionary, DictEntry}
use Rattle.dia_compat.specs.PairTests.{entry_named}
use Rattle.dia_compat.proofs.SetsOfNames.{place_by_name}
use Rattle.dia_compat.proofs.comparing.named_book.NamedBook.avp.Goals as goal

pub returns-in-None : goal.returns-in-None
returns-in-None g c =
    let named = c.self.inside in
    (rw c.deref.ensures at c.in-None.ensures.index)
    ∙ place_by_name (λ (e : DictEntry). e.name) (g.B.Book.meaning named.book.now).entries named.avps.value.keys c.args.name.now c.self.invariant.0
    ∙ ap (λ (d : Dictionary). entry_named d c.args.name.now) c.self.view_is

pub returns-in-Some : goal.returns-in-Some
returns-in-Some g c =
    let named = c.self.inside in
    ap (λ (i : ℕ). Some i) c.entry_at.ensures ∙ (rw c.deref.ensures at c.in-Some.ensures.index)
    ∙ place_by_name (λ (e : DictEntry). e.name) (g.B.Book.meaning named.book.now).entries named.avps.value.keys c.args.name.now c.self.invariant.0
    ∙ ap (λ (d : Dictionary). entry_named d c.args.name.now) c.self.view_is
