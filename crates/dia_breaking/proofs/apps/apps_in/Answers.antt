use Rattle.std.proofs.Common.{ap, ◌∙◌, arith}
use Rattle.std.proofs.lemmas.Option.{slice_get-get_or}
use Rattle.dia_book.specs.declared.Class.TheVariants.{Request}
use Rattle.dia_breaking.specs.Headers.{row_app}
use Rattle.dia_breaking.proofs.Lists.{added}
use Rattle.std.proofs.lemmas.List.{take_all}
use Rattle.std.specs.List.{filter_map}
use Rattle.dia_breaking.proofs.apps.apps_in.Goals as goal

pub loop-row-preserved : goal.loop-row-preserved
loop-row-preserved c =
    let rows = c.args.rows.now in
    let i = c.loop-row.row-index in
    added (row_app c.args.class) rows i _ c.loop-row.apps.items c.push_row.new.apps.items c.in_ok-push_row.ensures c.loop-row.invariant (slice_get-get_or rows i (Request, 0) (omega arith))

pub returns : goal.returns
returns c = c.loop-row.invariant ∙ ap (filter_map (row_app c.args.class)) (take_all c.loop-row.row-index c.args.rows.now c.loop-row-test.false)
