use Rattle.std.proofs.Common.{refl}
use Rattle.std.proofs.lemmas.Result.{err_from_is_err_and}
use Rattle.dia_dict.specs.contracts.indexed_book.IndexedBookBook.TheImpl.{ghosts}
use Rattle.dia_upgrades_json.proofs.Reports.{fault_reports, listed_reports}
use Rattle.dia_upgrades_json.proofs.command.over_books.Goals as goal

pub returns-in_err-exit-clause-reports : goal.returns-in_err-exit-clause-reports
returns-in_err-exit-clause-reports g c =
    let p = err_from_is_err_and c.from_residual.result c.from_residual.ensures.1 in
    rw (p.1, p.2) (λ are_read are_placed. fault_reports (λ x. ghosts.meaning x) c.args.asked c.args.inputs.now _ _ c.args.books are_read are_placed c.in_err-exit.field-0.0
    c.in_err-exit.ensures.answers)

pub returns-clause-reports : goal.returns-clause-reports
returns-clause-reports g c = λ are_read are_placed.
    listed_reports (λ x. ghosts.meaning x) c.args.asked c.args.inputs.now _ _ c.args.books are_read are_placed c.in_ok-exit.field-0 _ refl refl
    c.in_ok-exit.ensures.answers
