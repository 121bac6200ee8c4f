use Rattle.std.proofs.Common.{◌≡◌, map, take}
use Rattle.dia_breaking.specs.Confirmed.{EachConfirmedBreaks, HaveStandings, left_after}
use Rattle.dia_breaking.specs.Listing.{unchecked}
use Rattle.dia_breaking.specs.Corrected.{EachHasMessage}
use Rattle.dia_breaking.specs.ShownLines.{HaveSpellableKeys}
use Rattle.dia_breaking.specs.RecordedMessages.{AreConfirmedWhere}
use Rattle.dia_breaking.specs.Upgrades.{sides_of, stock_of}
use Rattle.dia_breaking.proofs.upgrade.Upgrade.with_standings.Given as goal

abbrev pub invariant-loop-line : goal.invariant-loop-line
invariant-loop-line g l = record {
  kept : map unchecked l.lines.items ≡ map unchecked (take l.line-index l.fn.breaks.lines.items);
  each : EachConfirmedBreaks (sides_of l.self) l.fn.breaks.command l.lines.items;
  each_corrected : EachHasMessage (sides_of l.self) l.fn.breaks.command l.fn.breaks.sites.items l.lines.items;
  standings : HaveStandings l.fn.left l.lines.items;
  exactly : AreConfirmedWhere (sides_of l.self) (stock_of l.self) l.fn.breaks.command l.fn.breaks.sites.items l.fn.left l.lines.items;
  spellable : HaveSpellableKeys l.lines.items;
  left : l.left ≡ left_after l.fn.left l.lines.items;
}
