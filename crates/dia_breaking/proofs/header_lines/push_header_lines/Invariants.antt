use Rattle.std.proofs.Common.{[]}
use Rattle.std.specs.Prelude.{slice_get}
use Rattle.std.specs.Option.{option_map_or}
use Rattle.dia_breaking.specs.Listing.{AddsRecorded, header_lines}
use Rattle.dia_breaking.specs.Orders.{joined}
use Rattle.dia_breaking.proofs.header_lines.push_header_lines.Given as goal

abbrev pub invariant-loop-site : goal.invariant-loop-site
invariant-loop-site g l =
    AddsRecorded l.initial.lines.items l.lines.items (joined (λ k. option_map_or (header_lines (g.B.Book.meaning l.b) l.start.head l.start.base k) (slice_get l.start.readings.items k) []) l.site)
