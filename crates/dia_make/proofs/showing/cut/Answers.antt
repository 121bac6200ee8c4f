use Rattle.std.proofs.Common.{refl, append_assoc}
use Rattle.dia_make.proofs.showing.cut.Goals as goal

pub returns-clause-cut : goal.returns-clause-cut
returns-clause-cut c = (c.cut_place-place.result, c.cut_place-place.ensures, simp append_assoc c.in_ok-text.ensures.ok, refl)
