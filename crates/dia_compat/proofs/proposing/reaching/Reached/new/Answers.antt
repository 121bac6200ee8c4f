use Rattle.dia_compat.proofs.ReachedKeys.{first_rest}
use Rattle.dia_compat.proofs.proposing.reaching.Reached.new.Goals as goal

pub returns-clause-rest : goal.returns-clause-rest
returns-clause-rest g c =
    first_rest c.args.sides.now (record { keys = c.in_ok-with_capacity.field-0; waiting = c.new.result; rest = c.in_ok-shared_keys.field-0 }) c.in_ok-shared_keys.ensures
