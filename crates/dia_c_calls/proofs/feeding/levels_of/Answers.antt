use Rattle.std.proofs.Common.{subst}
use Rattle.std.proofs.Math.Logic.{∥∥₁_map}
use Rattle.dia_check.specs.Pauses.{IsPausedFor}
use Rattle.dia_check.proofs.Pauses.{not_spent}
use Rattle.dia_c_calls.proofs.feeding.levels_of.Goals as goal

pub returns-clause-levels : goal.returns-clause-levels
returns-clause-levels g c d u most bytes paused same =
    let occurs = c.resume-stream.ensures.occurs d u most bytes paused same in
    c.levels-levels.ensures.count (not_spent d u most bytes _ _ occurs.taken.read) d u most bytes occurs

pub returns-clause-kept : goal.returns-clause-kept
returns-clause-kept g c d u most bytes paused same = c.pause.ensures.paused d u most bytes (c.resume-stream.ensures.occurs d u most bytes paused same)

pub returns-clause-fits : goal.returns-clause-fits
returns-clause-fits g c = ∥∥₁_map c.pause.ensures.fits (λ x. subst (λ d. IsPausedFor d c.pause.result) c.resume-stream.ensures.dictionary x)

pub returns-clause-spent : goal.returns-clause-spent
returns-clause-spent g c = (
  λ was. c.resume-stream.ensures.spent.0 (c.pause.ensures.spent.0 was),
  λ was. c.pause.ensures.spent.1 (c.resume-stream.ensures.spent.1 was),
)
