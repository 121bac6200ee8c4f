use Rattle.std.proofs.Common.{ap, sym, subst, refl, ◌∙◌, ◌<◌, ◌+◌, ◌++◌, ◌∷◌, [], List, ℕ}
use Rattle.std.proofs.lemmas.List.Elements.{All-nil}
use Rattle.std.specs.Map.{values_of}
use Rattle.dia_follow.specs.declared.request.Request.{Request}
use Rattle.dia_follow.specs.Numbered.{AreBelow}
use Rattle.dia_follow.proofs.Numbered.{below_next, values_pushed}
use Rattle.dia_follow.proofs.waiting.Waiting.add.Goals as goal

pub invariant_of-self-in_err-insert : goal.invariant_of-self-in_err-insert
invariant_of-self-in_err-insert c = subst (λ (l : List (ℕ × Request)). AreBelow l c.self.inside.next) (sym c.in_err-insert.ensures.refused) (All-nil (λ k. k < c.self.inside.next))

pub invariant_of-self-2 : goal.invariant_of-self-2
invariant_of-self-2 c =
    subst (λ (l : List (ℕ × Request)). AreBelow l (c.in_ok-number.number + 1)) (sym c.in_ok-insert.ensures.added)
    (below_next c.free_number.new.table c.in_ok-number.number _ c.args.request c.in_ok-number.ensures.above refl)

pub returns : goal.returns
returns c =
    ap values_of c.in_ok-insert.ensures.added
    ∙ values_pushed c.free_number.new.table c.in_ok-number.number c.args.request
    ∙ ap (λ l. l ++ c.args.request ∷ []) (c.in_ok-number.ensures.same ∙ c.self.view_is)
