use Rattle.dia_breaking_sites.specs.Sites.{Passes}
use Rattle.dia_breaking_sites.proofs.SafeLevels.{levels_of_b}
use Rattle.dia_breaking_sites.proofs.safe.safe_sites_read_levels.Goals as goal

pub returns : goal.returns
returns c = λ da db who u test sites safe. levels_of_b da db who u (Passes test) sites safe
