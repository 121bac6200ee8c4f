use Rattle.std.proofs.Common.{map, subst, sym}
use Rattle.dia_dict.specs.contracts.indexed_book.IndexedBookBook.TheImpl.{ghosts}
use Rattle.dia_accepted.specs.Accepted.{plain_entry}
use Rattle.dia_lint_text.specs.Asking.{has_in, question}
use Rattle.dia_lint_text.specs.Lists.{IsListText}
use Rattle.dia_lint_text.proofs.Outcomes.{bad_list, listed_outcome}
use Rattle.dia_lint_text.proofs.command.over_book.Goals as goal

pub returns-in_ok-listing-in-Ok : goal.returns-in_ok-listing-in-Ok
returns-in_ok-listing-in-Ok c =
    let chosen = c.args.choice.now.chosen.items in
    let inputs = c.args.inputs.now in
    let lists = c.in_ok-listing-in-Ok.ensures in
    let are = rw c.in-Ok.is at c.in_ok-list.ensures.list in
    listed_outcome (question c.args.asked.now) inputs c.args.read.now.source (ghosts.meaning c.args.read.now.book) chosen lists.0 (map plain_entry c.deref.result.now) c.in_ok-listing-in-Ok.listing
    c.listed.result c.requires.chosen c.requires.known c.requires.some c.requires.source c.requires.placed c.requires.book lists.1
    (subst (λ es. IsListText (has_in chosen) inputs.table (map plain_entry es)) (sym c.deref.ensures.value) are) lists.2 c.listed.ensures.text c.listed.ensures.exit

pub returns-in-Err : goal.returns-in-Err
returns-in-Err c =
    bad_list (question c.args.asked.now) c.args.inputs.now (ghosts.meaning c.args.read.now.book) c.in-Err.bad c.no_list.result c.requires.known c.requires.some c.requires.book
    (rw c.in-Err.is at c.in_ok-list.ensures.bad) c.no_list.ensures.text c.no_list.ensures.exit
