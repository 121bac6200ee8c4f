use Rattle.dia_compat.proofs.laws.no_table_passes.Goals as goal

pub returns : goal.returns
returns c = λ da db u names table other kind pair reason least first lists closed. first.fails ((least.least other lists closed).0 kind pair reason)
