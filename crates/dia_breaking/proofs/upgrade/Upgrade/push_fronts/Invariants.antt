use Rattle.std.proofs.Common.{◌≡◌, ◌++◌, None, drop, reverse}
use Rattle.dia_breaking.specs.Nested.{fronts as all_fronts, rests as all_rests}
use Rattle.dia_breaking.specs.Upgrades.{sides_of, stock_of}
use Rattle.dia_breaking.proofs.upgrade.Upgrade.push_fronts.Given as goal

abbrev pub invariant-loop-site : goal.invariant-loop-site
invariant-loop-site g l = record {
  fronts : l.out.items ++ all_fronts (sides_of l.self) (stock_of l.self) l.command l.size l.outer (drop l.site-index l.path)
      ≡ l.initial.out.items ++ all_fronts (sides_of l.self) (stock_of l.self) l.command l.size None l.path;
  rests : all_rests (sides_of l.self) (stock_of l.self) l.command l.outer (drop l.site-index l.path) ++ reverse l.following.items
      ≡ all_rests (sides_of l.self) (stock_of l.self) l.command None l.path ++ reverse l.initial.following.items;
}
