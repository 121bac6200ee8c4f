use Rattle.dia_check.specs.declared.open_levels.OpenLevels.{OpenLevels}
use Rattle.dia_check.proofs.KeptLevels.{ended}
use Rattle.dia_check.proofs.open_levels.OpenLevels.close.Goals as goal

pub returns-in-Some-clause-inner : goal.returns-in-Some-clause-inner
returns-in-Some-clause-inner c is defs outer level now =
    let old = c.args.self.now in
    let after : OpenLevels = record { innermost = c.in-Some.next; outer = c.pop.new.self; tallies = c.truncate.new.self } in
    ended defs old after outer level now c.in-Some.ensures.items c.truncate.ensures.items c.truncate.ensures.capacity
