use Rattle.std.proofs.Common.{Err, ap, refl}
use Rattle.std.proofs.lemmas.Result.{err_from_is_err_and}
use Rattle.dia_dict.specs.contracts.indexed_book.IndexedBookBook.TheImpl.{ghosts}
use Rattle.dia_upgrades.specs.InWords.{in_words}
use Rattle.dia_upgrades.proofs.Reports.{answers_by, fault_reports, listed_reports}
use Rattle.dia_upgrades.proofs.command.over_books.Goals as goal

pub returns-in_err-exit-clause-reports : goal.returns-in_err-exit-clause-reports
returns-in_err-exit-clause-reports g c =
    let p = err_from_is_err_and c.from_residual.result c.from_residual.ensures.1 in
    let front = rw (c.deref.ensures, c.deref-2.ensures) at c.in_err-exit.ensures.front in
    let none = rw (c.deref.ensures, c.deref-2.ensures) at c.in_err-exit.ensures.no_memory in
    rw (p.1, p.2)
    (λ are_read. fault_reports (λ x. ghosts.meaning x) c.args.asked c.args.inputs.now _ _ c.args.books are_read c.in_err-exit.field-0.0
    (answers_by in_words c.args.asked c.args.inputs.now.table _ _ _ _ c.in_err-exit.field-0.0 (λ e. front (ap (λ f. Err f) e)) (λ e. none (ap (λ f. Err f) e))))

pub returns-clause-reports : goal.returns-clause-reports
returns-clause-reports g c = λ are_read.
    listed_reports (λ x. ghosts.meaning x) c.args.asked c.args.inputs.now _ _ c.args.books are_read c.in_ok-exit.field-0 _ refl refl (rw (c.deref.ensures, c.deref-2.ensures) at c.in_ok-exit.ensures.text)
