use Rattle.std.proofs.Common.{sym, subst}
use Rattle.std.specs.Prelude.{IfOk}
use Rattle.dia_terms.specs.declared.Sends.{Sends}
use Rattle.dia_terms.specs.declared.Sends.TheVariants.{Any}
use Rattle.dia_breaking.specs.Lengths.{AreExactlyOthers}
use Rattle.dia_breaking.proofs.Lists.{when_ok}
use Rattle.dia_breaking.proofs.lengths.others_of.Goals as goal

pub returns-in-Any : goal.returns-in-Any
returns-in-Any g c =
    let da = g.A.Book.meaning c.args.a.now in
    let db = g.B.Book.meaning c.args.b.now in
    let entries = c.args.entries.now in
    subst (λ (who : Sends). IfOk c.only.result (λ keys. AreExactlyOthers da db who entries keys.items)) (sym c.in-Any.is)
    (when_ok _ (λ keys. AreExactlyOthers da db Any entries keys.items) c.only.result (λ keys is. (c.stranger.result, c.stranger.ensures, is)) c.only.ensures)
