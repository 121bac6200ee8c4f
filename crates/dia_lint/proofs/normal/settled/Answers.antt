use Rattle.std.proofs.Common.{◌≡◌, [], Bool, false, true, ap, inl, inr, length, not, refl, sym, ◌∙◌}
use Rattle.std.specs.Prelude.{◌⊎◌, is_some}
use Rattle.dia_lint.proofs.NormalParts.{parts_stay}
use Rattle.dia_lint.proofs.normal.settled.Goals as goal
use Rattle.dia_lint.proofs.normal.settled.Goals.{else-is_none-via-then-is_none+else-is_empty, else-is_none-via-else-is_none}

pub returns : goal.returns
returns c = λ p firsts anys others.
    let held : (is_some c.args.others ≡ true) ⊎ (c.args.anys.keys ≡ [] → ⊥) = elim c.else-is_none.branch [
      | else-is_none-via-then-is_none+else-is_empty w ↦ inr (λ none. absurd (let f : true ≡ false = sym (w.is_empty.ensures.1 (ap (λ xs. length xs) none)) ∙ w.if-is_empty.false in cc))
      | else-is_none-via-else-is_none w ↦ inl (c.is_none.ensures ∙ ap (λ (b : Bool). not b) w.if-is_none.false)
    ] in
    parts_stay p c.args.firsts.items c.args.anys c.args.others (record { firsts = c.args.firsts; anys = c.args.anys; others = c.numbers_if.result }) firsts anys others held refl refl c.numbers_if.ensures
