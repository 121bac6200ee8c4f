use Rattle.std.proofs.Common.{[], map}
use Rattle.std.specs.Prelude.{slice_get}
use Rattle.std.specs.Option.{option_map_or}
use Rattle.dia_breaking.specs.Listing.{AddsRecorded, command_levels}
use Rattle.dia_breaking.specs.Orders.{joined}
use Rattle.dia_breaking.proofs.lines.push_command_levels.Given as goal

abbrev pub invariant-loop-site : goal.invariant-loop-site
invariant-loop-site l =
    AddsRecorded l.initial.lines.items l.lines.items (joined (λ k. option_map_or (command_levels k) (slice_get (map (λ found. found.items) l.start.levels.items) k) []) l.site)
