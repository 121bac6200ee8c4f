use Rattle.std.proofs.Common.{◌≡◌, ◌++◌, take}
use Rattle.dia_breaking_shortest.specs.Bytes.{parts_bytes}
use Rattle.dia_breaking.specs.Messages.{shortest_avp}
use Rattle.dia_breaking.specs.Upgrades.{sides_of, stock_of}
use Rattle.dia_breaking.proofs.upgrade.Upgrade.push_parts.Given as goal

abbrev pub invariant-loop-part : goal.invariant-loop-part
invariant-loop-part g l = l.out.items ≡ l.initial.out.items ++ parts_bytes (shortest_avp (sides_of l.self) (stock_of l.self)) (take l.part-index l.parts)
