use Rattle.std.proofs.Common.{ℕ, false, [], get_or, map, subst, arith}
use Rattle.std.specs.Prelude.{slice_get}
use Rattle.dia_breaking_ways.specs.declared.graph.Step.{Step}
use Rattle.std.specs.Option.{option_map_or}
use Rattle.std.proofs.lemmas.Option.{slice_get-get_or}
use Rattle.dia_breaking.specs.Listing.{AddsRecorded, group_levels, level_lines, lines_in}
use Rattle.dia_breaking.proofs.RecordedLists.{adds_at, adds_none, adds_part, adds_each}
use Rattle.dia_breaking.proofs.upgrade.Upgrade.push_group_levels.Goals as goal

pub loop-index-init : goal.loop-index-init
loop-index-init g c = adds_none c.args.lines.now.items

pub loop-index-preserved : goal.loop-index-preserved
loop-index-preserved g c =
    let groups = map lines_in c.args.self.now.outlooks.items in
    let f = group_levels c.args.count groups in
    let steps = c.args.steps.now in
    let i = c.loop-index.index in
    let no_step : Step = record { place = 0; outer = 0; wild = false; way = 0 } in
    let step = get_or steps i no_step in
    adds_part (λ k. option_map_or (f k) (slice_get steps k) []) i _ _ _ c.loop-index.invariant
    (adds_at (f i) steps i step _ _ (slice_get-get_or steps i no_step (omega arith))
    (subst (λ (site : ℕ). AddsRecorded c.loop-index.lines.items c.push_group_level.new.lines.items (option_map_or (level_lines site step.way) (slice_get groups step.place) [])) c.saturating_add.ensures
    c.in_ok-push_group_level.ensures))

pub returns : goal.returns
returns g c = adds_each (group_levels c.args.count (map lines_in c.args.self.now.outlooks.items)) c.args.steps.now c.loop-index.index _ _ (omega arith) c.loop-index.invariant
