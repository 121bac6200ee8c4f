use Rattle.std.proofs.Common.{ℕ, List, Option, None, subst}
use Rattle.dia_follow.specs.Contents.{IsExperimental}
use Rattle.dia_follow.proofs.contents.experimental.Goals as goal

pub returns-in-Some : goal.returns-in-Some
returns-in-Some c avps left front =
    subst (λ (o : Option (List ℕ)). IsExperimental o c.experimental_in.result) (c.in-Some.ensures avps left front) c.experimental_in.ensures

pub returns-in-None : goal.returns-in-None
returns-in-None c avps left front = subst (λ (o : Option (List ℕ)). IsExperimental o None) (c.in-None.ensures avps left front) (λ i. None)
