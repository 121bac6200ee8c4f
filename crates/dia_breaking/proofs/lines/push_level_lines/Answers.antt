use Rattle.std.proofs.Common.{◌+◌, sym, subst, arith}
use Rattle.std.proofs.lemmas.Option.{slice_get-get_or}
use Rattle.dia_breaking_levels.specs.declared.line.Line.{Line as LevelLine}
use Rattle.dia_breaking.specs.declared.line.Cause.TheVariants as causes
use Rattle.dia_breaking.specs.Listing.{AddsRecorded, with_room}
use Rattle.dia_breaking.proofs.Lists.{filter_map_more}
use Rattle.dia_breaking.proofs.RecordedLists.{adds_both}
use Rattle.dia_breaking.proofs.lines.push_level_lines.Goals as goal

pub loop-line-preserved : goal.loop-line-preserved
loop-line-preserved c =
    let found = c.args.found.now in
    let i = c.loop-line.line-index in
    let f = λ (line : LevelLine). with_room c.args.site (c.args.way + line.length) (causes.Level line) in
    subst (AddsRecorded c.args.lines.now.items c.push_level_line.new.lines.items) (sym (filter_map_more f found i _ (slice_get-get_or found i _ (omega arith))))
    (adds_both _ _ _ _ _ c.loop-line.invariant c.in_ok-push_level_line.ensures)
