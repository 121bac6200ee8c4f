use Rattle.std.proofs.Common.{◌∙◌, ap, subst}
use Rattle.dia_follow.specs.Numbered.{Rises, first_number}
use Rattle.dia_follow.specs.Waits.{has_hop}
use Rattle.dia_follow.proofs.waiting.table.Table.with_hop.Goals as goal

pub returns-clause-number : goal.returns-clause-number
returns-clause-number c = c.with_hop.ensures _ c.self.invariant ∙ ap (first_number (has_hop c.args.hop)) c.self.view_is

pub returns-clause-rise : goal.returns-clause-rise
returns-clause-rise c = subst Rises c.self.view_is c.self.invariant.rise
