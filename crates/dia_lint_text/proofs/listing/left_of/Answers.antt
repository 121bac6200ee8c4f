use Rattle.std.proofs.Common.{◌≡◌, ◌++◌, ◌∷◌, List, [], Some, flat_map, take, map, ap, arith, subst, take_all, string_bytes, ◌∙◌}
use Rattle.std.specs.Prelude.{if◌then◌else◌, slice_get}
use Rattle.std.specs.List.{list_any}
use Rattle.std.specs.Option.{option_map, option_map_or}
use Rattle.std.proofs.lemmas.List.{length-map}
use Rattle.std.proofs.lemmas.Option.{slice_get-map}
use Rattle.dia_accepted.specs.Accepted.{PlainRecorded, accepts}
use Rattle.dia_accepted.specs.Seen.{HasSeen}
use Rattle.dia_lint.proofs.Places.{at_place}
use Rattle.dia_lint_text.specs.Asking.{question}
use Rattle.dia_lint_text.specs.Lines.{left_of, line_by, line_of, recorded_by, recorded_of, words_by}
use Rattle.dia_lint_text.specs.Rows.{plain_row}
use Rattle.dia_lint_text.proofs.Left.{more_left, more_recorded}
use Rattle.dia_lint_text.proofs.listing.left_of.Goals as goal

pub loop-row-preserved : goal.loop-row-preserved
loop-row-preserved g c =
    let rows = c.args.rows.now in
    let found = c.args.findings.now in
    let text = c.args.text.now in
    let q = question c.args.asked.now in
    let d = g.B.Book.meaning c.args.parts.now.book.now in
    let i = c.loop-row.row-index in
    let row = plain_row c.row-item.result in
    let at : slice_get (map plain_row rows) i ≡ Some row = slice_get-map plain_row rows i ∙ ap (option_map plain_row) (at_place rows i c.row-item.result c.loop-row-test.true c.row-item.is) in
    let F = c.finding_at-finding.ensures in
    let T = c.loop-row.invariant.place in
    let old = string_bytes c.loop-row.left.text in
    let numbers = map (λ s. s.rule) c.loop-row.left.shown.items in
    record {
      cursor = c.in_ok-take_row.ensures.cursor;
      place = c.in_ok-take_row.ensures.place ∙ T;
      left = λ list seen.
          let come = c.loop-row.invariant.seen list seen in
          more_left (line_of q d text found) found list (map plain_row rows) i row old numbers _ _ at (c.loop-row.invariant.left list seen)
          (c.in_ok-take_row.ensures.text list (map (recorded_of found) (take i (map plain_row rows))) come
          ∙ ap (λ o. old ++ (if list_any (accepts (words_by o row)) list then [] else option_map_or (line_by q d c.loop-row.cursor.text.now row) o [])) F
          ∙ ap (λ t. old ++ (if list_any (accepts (words_by (slice_get found row.finding) row)) list then [] else option_map_or (line_by q d t row) (slice_get found row.finding) [])) T)
          (c.in_ok-take_row.ensures.shown list (map (recorded_of found) (take i (map plain_row rows))) come ∙ ap (λ o. numbers ++ (if list_any (accepts (words_by o row)) list then [] else row.rule ∷ [])) F);
      seen = λ list seen.
          let come = c.loop-row.invariant.seen list seen in
          subst (λ (done : List PlainRecorded). HasSeen c.take_row.new.accepting list done)
          (ap (λ o. map (recorded_of found) (take i (map plain_row rows)) ++ recorded_by o row ∷ []) F ∙ more_recorded found (map plain_row rows) i row at)
          (c.in_ok-take_row.ensures.seen list (map (recorded_of found) (take i (map plain_row rows))) come);
    }

pub returns-clause-text : goal.returns-clause-text
returns-clause-text g c = λ list seen.
    let rows = map plain_row c.args.rows.now in
    let all = take_all c.loop-row.row-index rows (let l = length-map c.args.rows.now plain_row in omega (arith, l, c.loop-row-test.false)) in
    (c.loop-row.invariant.left list seen).text_is ∙ ap (λ rs. flat_map (line_of (question c.args.asked.now) (g.B.Book.meaning c.args.parts.now.book.now) c.args.text.now c.args.findings.now) (left_of list c.args.findings.now rs)) all

pub returns-clause-shown : goal.returns-clause-shown
returns-clause-shown g c = λ list seen.
    let rows = map plain_row c.args.rows.now in
    let all = take_all c.loop-row.row-index rows (let l = length-map c.args.rows.now plain_row in omega (arith, l, c.loop-row-test.false)) in
    (c.loop-row.invariant.left list seen).numbers_are ∙ ap (λ rs. map (λ r. r.rule) (left_of list c.args.findings.now rs)) all

pub returns-clause-seen : goal.returns-clause-seen
returns-clause-seen g c = λ list seen.
    let rows = map plain_row c.args.rows.now in
    let all = take_all c.loop-row.row-index rows (let l = length-map c.args.rows.now plain_row in omega (arith, l, c.loop-row-test.false)) in
    subst (λ rs. HasSeen c.loop-row.accepting list (map (recorded_of c.args.findings.now) rs)) all (c.loop-row.invariant.seen list seen)
