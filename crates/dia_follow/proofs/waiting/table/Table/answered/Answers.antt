use Rattle.std.proofs.Common.{◌∙◌, ap, subst}
use Rattle.dia_follow.specs.Numbered.{Rises, answered_number, first_number}
use Rattle.dia_follow.specs.Waits.{has_hop, or_else}
use Rattle.dia_follow.proofs.waiting.table.Table.answered.Goals as goal

pub returns-in-Some-clause-number : goal.returns-in-Some-clause-number
returns-in-Some-clause-number c =
    ap (λ m. or_else m (first_number (has_hop c.args.hop) c.self.inside.requests.entries)) (c.in-Some.ensures _ c.self.invariant)
    ∙ ap (λ es. answered_number es c.args.hop c.args.e2e) c.self.view_is

pub returns-in-Some-clause-rise : goal.returns-in-Some-clause-rise
returns-in-Some-clause-rise c = subst Rises c.self.view_is c.self.invariant.rise

pub returns-in-None-clause-number : goal.returns-in-None-clause-number
returns-in-None-clause-number c =
    c.with_hop.ensures _ c.self.invariant
    ∙ ap (λ m. or_else m (first_number (has_hop c.args.hop) c.self.inside.requests.entries)) (c.in-None.ensures _ c.self.invariant)
    ∙ ap (λ es. answered_number es c.args.hop c.args.e2e) c.self.view_is

pub returns-in-None-clause-rise : goal.returns-in-None-clause-rise
returns-in-None-clause-rise c = subst Rises c.self.view_is c.self.invariant.rise
