use Rattle.std.proofs.Common.{sym, subst, ap, List, ℕ, ◌∙◌, drop}
use Rattle.std.specs.Map.{values_of}
use Rattle.dia_follow.specs.declared.request.Request.{Request}
use Rattle.dia_follow.specs.Numbered.{AreBelow}
use Rattle.dia_follow.proofs.Numbered.{below_dropped, values_dropped}
use Rattle.dia_follow.proofs.waiting.Waiting.forget.Goals as goal

pub invariant_of-self : goal.invariant_of-self
invariant_of-self c = subst (λ (es : List (ℕ × Request)). AreBelow es c.self.inside.next) (sym c.take_first.ensures.others) (below_dropped c.self.inside.table c.self.inside.next c.self.invariant)

pub returns : goal.returns
returns c = ap values_of c.take_first.ensures.others ∙ values_dropped c.self.inside.table ∙ ap (drop 1) c.self.view_is
