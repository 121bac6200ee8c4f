use Rattle.dia_lint.proofs.NormalParts.{equal_alike}
use Rattle.dia_lint.proofs.normal.are_alike.Goals as goal

pub returns : goal.returns
returns c =
    let same = equal_alike c.args.rules.now c.args.others.now c.in_ok-own.own c.in_ok-theirs.theirs c.in_ok-own.ensures c.in_ok-theirs.ensures in
    (λ h. same.0 (c.asks_same.ensures.0 h), λ h. c.asks_same.ensures.1 (same.1 h))
