use Rattle.std.proofs.Common.{◌≡◌, map, take}
use Rattle.dia_breaking.specs.LineParts.{groups_on}
use Rattle.dia_breaking.specs.Upgrades.{sides_of}
use Rattle.dia_breaking.proofs.upgrade.Upgrade.groups_on.Given as goal

abbrev pub invariant-loop-site : goal.invariant-loop-site
invariant-loop-site g l = map (λ name. name.now) l.names.items ≡ groups_on (sides_of l.self) (take l.site-index l.path)
