use Rattle.std.proofs.Common.{◌<◌, ap, sym, subst, ◌∙◌, List, ℕ, Some, None, nat_cmp}
use Rattle.std.proofs.lemmas.Map.Views.{All-map-remove_entry}
use Rattle.std.specs.BTreeMap.{is_at}
use Rattle.std.specs.Map.{values_of}
use Rattle.dia_follow.specs.declared.request.Request.{Request}
use Rattle.dia_follow.specs.Numbered.{AreBelow}
use Rattle.dia_follow.specs.Places.{without_place}
use Rattle.dia_follow.specs.Waits.{answered_place}
use Rattle.dia_follow.proofs.Numbered.{answered_left}
use Rattle.dia_follow.proofs.waiting.Waiting.remove_answered.Goals as goal

pub invariant_of-self : goal.invariant_of-self
invariant_of-self c =
    subst (λ (es : List (ℕ × Request)). AreBelow es c.self.inside.next) (sym c.remove.ensures)
    (All-map-remove_entry (is_at (nat_cmp c.in-Some.number)) (λ (e : ℕ × Request). e.0) (λ k. k < c.self.inside.next) c.self.inside.table c.self.invariant)

pub returns-in-Some : goal.returns-in-Some
returns-in-Some c =
    ap values_of c.remove.ensures
    ∙ sym (answered_left c.self.inside.table c.args.hop c.args.e2e (Some c.in-Some.number) c.in-Some.ensures.rise c.in-Some.ensures.number)
    ∙ ap (λ ws. without_place ws (answered_place ws c.args.hop c.args.e2e)) c.self.view_is

pub returns-in-None : goal.returns-in-None
returns-in-None c =
    sym c.self.view_is
    ∙ sym (answered_left c.self.inside.table c.args.hop c.args.e2e None c.in-None.ensures.rise c.in-None.ensures.number)
    ∙ ap (λ ws. without_place ws (answered_place ws c.args.hop c.args.e2e)) c.self.view_is
