use Rattle.std.proofs.Common.{sym, ◌∙◌}
use Rattle.std.proofs.lemmas.Bool.{false≢true}
use Rattle.dia_explain_upgrades.proofs.unsent.unsent_of.Goals as goal

pub unsent_avps-requires : goal.unsent_avps-requires
unsent_avps-requires c = λ is. let filled = sym c.in_ok-upgrade.ensures.sends ∙ is in false≢true (sym c.if-eq.false ∙ rw filled at c.eq.ensures)
