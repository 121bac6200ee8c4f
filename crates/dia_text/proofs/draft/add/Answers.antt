use Rattle.dia_text.proofs.Drafting.{leaf_adds}
use Rattle.dia_text.proofs.draft.add.Goals as goal

pub returns-in-Leaf-clause-added : goal.returns-in-Leaf-clause-added
returns-in-Leaf-clause-added c = λ level s. rw c.in-Leaf.is (leaf_adds level _ _ _ _ _ _ _ s (rw c.deref.ensures.value at c.push_avp.ensures.value))
