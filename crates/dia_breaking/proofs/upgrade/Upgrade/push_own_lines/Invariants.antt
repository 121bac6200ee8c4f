use Rattle.std.proofs.Common.{[]}
use Rattle.std.specs.Prelude.{slice_get}
use Rattle.std.specs.Option.{option_map_or}
use Rattle.dia_breaking.specs.Listing.{AddsRecorded, KeepsUnchecked, reached_line}
use Rattle.dia_breaking.specs.Orders.{joined}
use Rattle.dia_breaking.specs.Upgrades.{KeepsIfKnown}
use Rattle.dia_breaking.proofs.upgrade.Upgrade.push_own_lines.Given as goal

abbrev pub invariant-loop-place : goal.invariant-loop-place
invariant-loop-place g l = record {
  recorded : AddsRecorded l.initial.lines.items l.lines.items (joined (λ k. option_map_or (reached_line l.kind l.numbers.first l.numbers.count l.reached k) (slice_get l.self.own.items k) []) l.place);
  formats : KeepsIfKnown l.self l.initial.lines.items l.lines.items;
  unchecked : KeepsUnchecked l.initial.lines.items l.lines.items;
}
