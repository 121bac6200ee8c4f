use Rattle.std.proofs.Common.{length, map, string_bytes, ap, sym, arith}
use Rattle.std.proofs.lemmas.List.{length-map}
use Rattle.dia_accepted.specs.Accepted.{plain_entry}
use Rattle.dia_lint_text.specs.Asking.{question}
use Rattle.dia_lint_text.specs.Lines.{recorded_of}
use Rattle.dia_lint_text.specs.Rows.{plain_row}
use Rattle.dia_lint_text.proofs.Outcomes.{is_listed}
use Rattle.dia_lint_text.proofs.Searches.{when_three}
use Rattle.dia_lint_text.proofs.listing.list_findings.Goals as goal

pub returns : goal.returns
returns g c =
    let q = question c.args.asked.now in
    let d = g.B.Book.meaning c.args.parts.now.book.now in
    let found = c.args.findings.now in
    let list = map plain_entry c.args.list.now in
    let rows = map plain_row c.args.rows.now in
    let left = c.in_ok-left.left in
    let stale = c.in_ok-stale.stale in
    let numbers = map (λ s. s.rule) left.shown.items in
    when_three _ _ _ _ c.ended.result
    (λ listing text shown is_stale. is_listed q d c.args.text.now found list rows listing (string_bytes left.text) numbers c.saturating_sub-accepted.result (length c.args.rows.now)
    (length left.shown.items) (map plain_entry stale.items) text (ap (λ v. map (λ s. s.rule) v.items) shown) (ap (λ v. map plain_entry v.items) is_stale)
    (c.in_ok-left.ensures.text list c.in_ok-accepting.ensures) (c.in_ok-left.ensures.shown list c.in_ok-accepting.ensures)
    (c.in_ok-stale.ensures list (map (recorded_of found) rows) (c.in_ok-left.ensures.seen list c.in_ok-accepting.ensures))
    (omega (arith, c.saturating_sub-accepted.ensures, left.shown.ok.0)) (sym (length-map c.args.rows.now plain_row)) (sym (length-map left.shown.items (λ s. s.rule))))
    c.ended.ensures.text c.ended.ensures.shown c.ended.ensures.stale
