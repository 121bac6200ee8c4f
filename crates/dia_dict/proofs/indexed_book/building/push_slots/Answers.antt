use Rattle.std.proofs.Common.{List, [], ◌∷◌, ◌+◌, ◌++◌, take, ap, sym, ◌∙◌, subst}
use Rattle.std.proofs.lemmas.List.{append_assoc, take_more, take_all}
use Rattle.dia_dict.specs.Indexed.{AreSlotsOfEach}
use Rattle.dia_book.specs.declared.Definition.{Definition}
use Rattle.dia_dict.proofs.Indexing.Slots.{SlotMap, AreSlotsOfEach-more}
use Rattle.dia_dict.proofs.indexed_book.building.push_slots.Goals as goal

pub loop-definition-preserved : goal.loop-definition-preserved
loop-definition-preserved c = λ ds known.
    let all = c.args.definitions.now in
    let i = c.loop-definition.definition-index in
    let d = c.definition-item.result in
    let front = ap (λ (es : List Definition). ds ++ es) (take_more all i d c.loop-definition-test.true ∙ ap (λ (e : Definition). take i all ++ e ∷ []) (sym c.definition-item.is))
    ∙ sym (append_assoc ds (take i all) (d ∷ [])) in
    subst (λ (maps : List SlotMap). AreSlotsOfEach maps (ds ++ take (i + 1) all)) (sym c.in_ok-push.ensures.items)
    (subst (AreSlotsOfEach _) (sym front) (AreSlotsOfEach-more c.loop-definition.all.items
    (ds ++ take i all) c.in_ok-slots_of.field-0 d (c.loop-definition.invariant ds known) c.in_ok-slots_of.ensures))

pub returns : goal.returns
returns c = λ ds known.
    subst (λ (es : List Definition). AreSlotsOfEach c.loop-definition.all.items (ds ++ es))
    (take_all c.loop-definition.definition-index c.args.definitions.now c.loop-definition-test.false) (c.loop-definition.invariant ds known)
