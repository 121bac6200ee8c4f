use Rattle.std.proofs.Common.{List, ℕ, flat_map, Bor, ap, subst}
use Rattle.std.proofs.lemmas.List.{take_all}
use Rattle.dia_explain_places.specs.Notes.{Gains}
use Rattle.dia_explain_places.proofs.Notes.{gains_nothing, gains_more, one_more}
use Rattle.dia_explain_places.proofs.note.Note.put_all.Goals as goal

pub loop-text-init : goal.loop-text-init
loop-text-init c = gains_nothing c.args.self.now

pub loop-text-preserved : goal.loop-text-preserved
loop-text-preserved c = subst (λ recorded. Gains c.args.self.now c.put.new.self recorded)
    (one_more (λ (text : Bor (List ℕ)). text.now) c.args.texts.now c.loop-text.text-index _ c.loop-text-test.true)
    (gains_more _ _ _ _ _ c.loop-text.invariant c.put.ensures)

pub returns : goal.returns
returns c = subst (λ recorded. Gains c.args.self.now c.loop-text.self recorded)
    (ap (λ (texts : List (Bor (List ℕ))). flat_map (λ (text : Bor (List ℕ)). text.now) texts) (take_all c.loop-text.text-index c.args.texts.now c.loop-text-test.false))
    c.loop-text.invariant
