use Rattle.dia_captures.proofs.spelling.refused_as.Goals as goal

pub returns-in-Bad-clause-bad : goal.returns-in-Bad-clause-bad
returns-in-Bad-clause-bad c = rw c.in-Bad.is (λ none. c.refusal_of.ensures _ none)
