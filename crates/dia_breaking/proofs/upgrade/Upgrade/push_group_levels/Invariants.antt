use Rattle.std.proofs.Common.{[], map}
use Rattle.std.specs.Prelude.{slice_get}
use Rattle.std.specs.Option.{option_map_or}
use Rattle.dia_breaking.specs.Listing.{AddsRecorded, group_levels, lines_in}
use Rattle.dia_breaking.specs.Orders.{joined}
use Rattle.dia_breaking.proofs.upgrade.Upgrade.push_group_levels.Given as goal

abbrev pub invariant-loop-index : goal.invariant-loop-index
invariant-loop-index g l =
    AddsRecorded l.initial.lines.items l.lines.items (joined (λ k. option_map_or (group_levels l.count (map lines_in l.self.outlooks.items) k) (slice_get l.steps k) []) l.index)
