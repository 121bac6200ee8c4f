use Rattle.std.proofs.Common.{◌≡◌, ◌++◌, take}
use Rattle.dia_breaking.specs.Sites.{group_sites}
use Rattle.dia_breaking.proofs.sites.push_group_sites.Given as goal

abbrev pub invariant-loop-step : goal.invariant-loop-step
invariant-loop-step l = l.sites.items ≡ l.initial.sites.items ++ group_sites l.own l.numbers.first l.numbers.count (take l.step-index l.steps)
