use Rattle.std.proofs.Common.{◌≡◌, ◌++◌}
use Rattle.dia_breaking_shortest.specs.Bytes.{repeated}
use Rattle.dia_breaking.specs.Messages.{shortest_avp}
use Rattle.dia_breaking.specs.Upgrades.{sides_of, stock_of}
use Rattle.dia_breaking.proofs.upgrade.Upgrade.push_part.Given as goal

abbrev pub invariant-loop-done : goal.invariant-loop-done
invariant-loop-done g l = l.out.items ≡ l.initial.out.items ++ repeated l.done (shortest_avp (sides_of l.self) (stock_of l.self) l.part.key)
