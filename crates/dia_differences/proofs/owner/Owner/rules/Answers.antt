use Rattle.std.proofs.Common.{◌∙◌}
use Rattle.dia_book.specs.Dictionary.{plain_definition}
use Rattle.dia_differences.proofs.Owned.{rules_none, rules_some}
use Rattle.dia_differences.proofs.owner.Owner.rules.Goals as goal

pub returns-in-Some : goal.returns-in-Some
returns-in-Some g c =
    c.deref.ensures.value ∙ rules_some (g.B.Book.meaning c.args.book.now) c.args.self c.in-Some.def (plain_definition c.def.result.now) c.in-Some.ensures.exact c.def.ensures

pub returns-in-None : goal.returns-in-None
returns-in-None g c = rules_none (g.B.Book.meaning c.args.book.now) c.args.self c.in-None.ensures.exact
