use Rattle.std.proofs.Common.{◌∙◌, ap, subst}
use Rattle.dia_follow.specs.Numbered.{Rises, first_number}
use Rattle.dia_follow.specs.Waits.{is_dwr}
use Rattle.dia_follow.proofs.waiting.table.Table.watchdog.Goals as goal

pub returns-clause-number : goal.returns-clause-number
returns-clause-number c = c.watchdog.ensures _ c.self.invariant ∙ ap (first_number is_dwr) c.self.view_is

pub returns-clause-rise : goal.returns-clause-rise
returns-clause-rise c = subst Rises c.self.view_is c.self.invariant.rise
