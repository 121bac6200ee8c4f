use Rattle.std.proofs.Common.{sym, subst}
use Rattle.std.specs.Prelude.{IfOk}
use Rattle.std.specs.List.Sorted.{IsNonDecreasingBy}
use Rattle.dia_terms.specs.declared.Sends.{Sends}
use Rattle.dia_terms.specs.declared.Sends.TheVariants.{Any, Known}
use Rattle.dia_breaking_shortest.specs.Lengths.{length_of}
use Rattle.dia_lint.specs.Costs.{AreOthers}
use Rattle.dia_lint.proofs.Fillers.{when_ok, when_both}
use Rattle.dia_lint.proofs.costs.others_of.Goals as goal

pub returns-in-Any : goal.returns-in-Any
returns-in-Any g c =
    let d = g.B.Book.meaning c.args.book.now in
    let lengths = c.args.least.now.lengths.items in
    subst (λ (who : Sends). IfOk c.only.result (λ keys. AreOthers d who lengths keys.items)) (sym c.in-Any.is)
    (when_ok _ (λ keys. AreOthers d Any lengths keys.items) c.only.result (λ keys is. (c.args.least.now.unknown, c.requires, is)) c.only.ensures)

pub returns-in-Known : goal.returns-in-Known
returns-in-Known g c =
    let d = g.B.Book.meaning c.args.book.now in
    let lengths = c.args.least.now.lengths.items in
    subst (λ (who : Sends). IfOk c.in_order.result (λ keys. AreOthers d who lengths keys.items)) (sym c.in-Known.is)
    (when_both _ _ (λ keys. AreOthers d Known lengths keys.items) c.in_order.result
    (λ keys sorted all. (subst (λ (who : Sends). IsNonDecreasingBy (length_of d who lengths) keys.items) c.in-Known.is sorted, all)) c.in_order.ensures.sorted c.in_order.ensures.all)
