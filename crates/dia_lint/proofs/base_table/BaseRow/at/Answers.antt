use Rattle.std.proofs.Common.{◌≡◌, ap, sym, slice_get, arith, ◌∙◌}
use Rattle.std.specs.Option.{option_map}
use Rattle.std.proofs.lemmas.Option.{slice_get-map, slice_get_past}
use Rattle.dia_lint.specs.BaseTable.{plain_row}
use Rattle.dia_lint.proofs.Places.{at_place}
use Rattle.dia_lint.proofs.base_table.BaseRow.at.Goals as goal

pub returns-in-Some : goal.returns-in-Some
returns-in-Some c =
    let rows = c.base_rows.result.now in
    let row = c.in-Some.row.now in
    let there = c.in-Some.ensures.lookup in
    sym (ap (option_map plain_row) (at_place rows c.args.place row there.3.0 there.1)) ∙ sym (slice_get-map plain_row rows c.args.place)
    ∙ ap (λ rows. slice_get rows c.args.place) c.base_rows.ensures

pub returns-in-None : goal.returns-in-None
returns-in-None c =
    sym (ap (option_map plain_row) (slice_get_past c.base_rows.result.now c.args.place (omega (arith, c.in-None.ensures.lookup))))
    ∙ sym (slice_get-map plain_row c.base_rows.result.now c.args.place) ∙ ap (λ rows. slice_get rows c.args.place) c.base_rows.ensures
