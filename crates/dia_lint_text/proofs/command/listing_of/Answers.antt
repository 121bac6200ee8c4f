use Rattle.std.proofs.Common.{map, refl, ap}
use Rattle.dia_dict.specs.contracts.indexed_book.IndexedBookBook.TheImpl.{ghosts}
use Rattle.std.proofs.lemmas.Result.{IfOk-weaker}
use Rattle.dia_accepted.specs.Accepted.{plain_entry}
use Rattle.dia_refused_json.specs.Refusals.{text_of}
use Rattle.dia_lint_text.specs.Asking.{has_in, question}
use Rattle.dia_lint_text.specs.Rows.{plain_row}
use Rattle.dia_lint_text.proofs.Outcomes.{listing_is, same_listed, same_sorted}
use Rattle.dia_lint_text.proofs.command.listing_of.Goals as goal

pub returns : goal.returns
returns c =
    let q = question c.args.asked.now in
    let read = c.args.read.now in
    let parts = c.in_ok-parts.parts in
    let found = c.in_ok-findings.findings.items in
    let rows = map plain_row c.in_ok-rows.rows.items in
    let groups = map (λ x. x.now) parts.groups.items in
    let chosen = c.args.choice.now.chosen.items in
    let text = text_of c.args.inputs.now.first in
    let d = ghosts.meaning read.book in
    let book = ap ghosts.meaning c.in_ok-parts.ensures.book in
    let spelt = c.spelt-text.ensures c.requires.text in
    let sorted = same_sorted (has_in chosen) groups _ d _ read.source _ text _ found _ rows book c.in_ok-parts.ensures.source spelt c.deref.ensures.value refl c.in_ok-rows.ensures in
    IfOk-weaker c.list_findings.result _ _
    (λ listing is. (
      found,
      c.in_ok-findings.ensures,
      listing_is q d read.source groups chosen text found (map plain_entry c.args.list.now) rows listing c.requires.chosen c.in_ok-parts.ensures.groups sorted
          (same_listed q (map plain_entry c.args.list.now) listing _ d _ text _ found _ rows book spelt c.deref-2.ensures.value (ap (map plain_row) c.deref-3.ensures.value) is),
    ))
    c.list_findings.ensures
