use Rattle.std.proofs.Common.{Bool, ap, ◌∙◌}
use Rattle.std.specs.Prelude.{◌||◌, is_some}
use Rattle.dia_follow.specs.Fronts.{first_data}
use Rattle.dia_follow.proofs.contents.has_destination.Goals as goal

pub returns-then-has : goal.returns-then-has
returns-then-has c avps left front = ap (λ (b : Bool). b || is_some (first_data 283 avps)) (c.if-has.ensures avps left front)

pub returns-else-has : goal.returns-else-has
returns-else-has c avps left front =
    c.has-else-has.ensures avps left front ∙ ap (λ (b : Bool). b || is_some (first_data 283 avps)) (c.if-has.ensures avps left front)
