-- The level that is written for a line is one.
use Rattle.std.proofs.Common.{◌≡◌, refl, sym, ap, ◌∙◌}
use Rattle.dia_breaking_levels.specs.declared.cut.Cut.{Cut}
use Rattle.dia_breaking_levels.specs.declared.line.Line.{Line}
use Rattle.dia_breaking_levels.specs.declared.line.Reason.{Reason}
use Rattle.dia_breaking_levels.specs.declared.line.Reason.TheVariants.{Missing, TooMany, NotAllowed, NotAllowedOther, MissingOthers, TooManyOthers, Order}
use Rattle.dia_breaking_levels.specs.Chosen.{IsCutFor, LineLevelsAreOne, Reads, level_parts, reason_demand, steps_to, wanted_others}
use Rattle.dia_breaking_levels.proofs.CutsOfSteps.{one_cut}

one_demand : (r : Reads) (line : Line) (a b : Cut) → IsCutFor r line.reason a → IsCutFor r line.reason b
    → reason_demand r a line.reason line.key line.following ≡ reason_demand r b line.reason line.key line.following
one_demand r line a b = by line.reason
  where
    by : (reason : Reason) → IsCutFor r reason a → IsCutFor r reason b → reason_demand r a reason line.key line.following ≡ reason_demand r b reason line.key line.following
    by Missing x y = refl
    by TooMany x y = refl
    by NotAllowed x y = refl
    by NotAllowedOther x y = refl
    by MissingOthers x y = refl
    by TooManyOthers x y = ap (λ (cut : Cut). reason_demand r cut TooManyOthers line.key line.following) (one_cut (wanted_others r) (steps_to r (wanted_others r)) a b x y)
    by Order x y = refl

pub one_level : LineLevelsAreOne
one_level r line xs ys (d, (a, a_is, d_is), xs_are) (e, (b, b_is, e_is), ys_are) =
    xs_are ∙ ap (level_parts r.sent) (d_is ∙ one_demand r line a b a_is b_is ∙ sym e_is) ∙ sym ys_are
