use Rattle.dia_breaking.specs.Sides.{sides}
use Rattle.dia_upgrades.proofs.judging.compared.Goals as goal

pub compared_by-requires-clause-between : goal.compared_by-requires-clause-between
compared_by-requires-clause-between g c =
    let made = c.in_ok-upgrade.ensures in
    λ i. sides (g.A.Book.meaning (made.sender i)) (g.B.Book.meaning (made.receiver i)) (made.sends i) (made.unknown i)
