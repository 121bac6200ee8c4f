use Rattle.std.proofs.Common.{◌≡◌, List, [], ◌∷◌, ◌++◌, sym, ap, ◌∙◌, subst}
use Rattle.std.specs.Prelude.{All}
use Rattle.std.proofs.lemmas.List.Elements.{All-push}
use Rattle.dia_breaking.specs.Upgrades.{costs_in, sides_of}
use Rattle.dia_unsent.specs.Unsent.{Describes}
use Rattle.dia_unsent.specs.declared.unsent.Unsent.{Unsent}
use Rattle.dia_unsent.proofs.UnheldAvps.{none_more, one_more}
use Rattle.dia_unsent.proofs.unsent.unheld_avps.Goals as goal
use Rattle.dia_unsent.proofs.unsent.unheld_avps.Goals.{then-not-is_held+in_ok-described+in_ok-push, else-not-is_held}

pub loop-index-preserved : goal.loop-index-preserved
loop-index-preserved g c =
    let held = c.args.held.now in
    let index = c.loop-index.index in
    let old = c.loop-index.avps.items in
    let new = c.if-not-is_held.avps.items in
    let P = Describes (sides_of c.args.upgrade.now) (costs_in c.args.upgrade.now) in
    elim c.if-not-is_held.branch [
      | then-not-is_held+in_ok-described+in_ok-push w ↦
          let avp = w.in_ok-described.field-0 in
          let added : new ≡ old ++ avp ∷ [] = ap (λ avps. avps.items) w.avps-is ∙ w.in_ok-push.ensures.items in
          record {
            exactly = one_more held index old new avp (sym w.if-not-is_held.ensures) c.loop-index.invariant.exactly (w.in_ok-described.ensures.entry ∙ w.entry_at.ensures) added;
            each = subst (λ (avps : List Unsent). All P avps) (sym added) (All-push P old avp c.loop-index.invariant.each w.in_ok-described.ensures.described);
          }
      | else-not-is_held w ↦
          let unchanged : new ≡ old = ap (λ avps. avps.items) w.avps-is in
          record {
            exactly = none_more held index old new (sym w.if-not-is_held.ensures) c.loop-index.invariant.exactly unchanged;
            each = subst (λ (avps : List Unsent). All P avps) (sym unchanged) c.loop-index.invariant.each;
          }
    ]
