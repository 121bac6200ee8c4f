use Rattle.std.proofs.Common.{Bool, ap, ◌∙◌}
use Rattle.std.specs.Prelude.{◌||◌}
use Rattle.dia_compat.specs.Sides.{Compared}
use Rattle.dia_compat.specs.PairTests.{is_alone, is_covered}
use Rattle.dia_compat.proofs.comparing.covers.Cover.covers.Goals as goal

pub returns : goal.returns
returns g c =
    (rw c.deref.ensures at c.is_covered.ensures) ∙ ap (λ (b : Bool). b || is_alone c.self.inside.sides c.args.key) (c.self.invariant.0 c.args.key)
    ∙ ap (λ (z : Compared). is_covered z c.args.key) c.self.view_is
