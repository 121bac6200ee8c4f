use Rattle.std.proofs.Common.{List, [], sym, subst}
use Rattle.dia_differences.specs.declared.lines.Line.{Line}
use Rattle.dia_differences.specs.Lines.{Adds, AreDifferences}
use Rattle.dia_diff.proofs.command.differences.Goals as goal

pub answered-requires-clause-differences : goal.answered-requires-clause-differences
answered-requires-clause-differences g c =
    subst (λ (ls : List Line). Adds [] ls (AreDifferences (g.A.Book.meaning c.args.a.now) (g.B.Book.meaning c.args.b.now))) (sym c.deref.ensures.value) c.in_ok-lines.ensures.differences
