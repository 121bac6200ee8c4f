use Rattle.dia_compat.proofs.OneProposal.{one_proposal}
use Rattle.dia_compat.proofs.laws.one_proposal.Goals as goal

pub returns : goal.returns
returns c = λ da db u names a b sa sb x y. one_proposal da db sa sb u names a b x y
