use Rattle.dia_directions.proofs.Streamed.{all_is_read, front_is_read}
use Rattle.dia_directions.proofs.laws.cuts.Goals as goal

pub returns-clause-front : goal.returns-clause-front
returns-clause-front c = front_is_read

pub returns-clause-whole : goal.returns-clause-whole
returns-clause-whole c = all_is_read
