use Rattle.std.proofs.Common.{Some, None, ap, sym, ◌∙◌}
use Rattle.std.specs.Prelude.{find}
use Rattle.dia_book.specs.Dictionary.{plain_definition}
use Rattle.dia_lint.specs.ExactLines.{is_unmet}
use Rattle.dia_lint.specs.Ways.{side_of}
use Rattle.dia_lint.proofs.ExactLists.{is_unmet_by}
use Rattle.dia_lint.proofs.exact.why_unmet.Goals as goal

pub returns-in-Some : goal.returns-in-Some
returns-in-Some g c =
    let s = side_of g.B.Book.meaning c.args.lengths.now in
    c.unmet_by.ensures ∙ is_unmet_by s c.args.def (plain_definition c.def-definition.result.now) c.of-filler.result (Some c.in-Some.rule) c.def-definition.ensures c.of-filler.ensures.exact
    (sym c.in-Some.is ∙ c.first_unmet.ensures ∙ ap (find (is_unmet s c.of-filler.result.filler)) c.deref.ensures.value)

pub returns-in-None : goal.returns-in-None
returns-in-None g c =
    let s = side_of g.B.Book.meaning c.args.lengths.now in
    is_unmet_by s c.args.def (plain_definition c.def-definition.result.now) c.of-filler.result None c.def-definition.ensures c.of-filler.ensures.exact
    (sym c.in-None.is ∙ c.first_unmet.ensures ∙ ap (find (is_unmet s c.of-filler.result.filler)) c.deref.ensures.value)
