use Rattle.std.specs.Prelude.{IsTrue}
use Rattle.dia_breaking_sites.specs.Sites.{Passes}
use Rattle.dia_breaking_sites.specs.Selection.{IsForbidden}
use Rattle.dia_breaking_sites.proofs.SafeMessages.{valid}
use Rattle.dia_breaking_sites.proofs.safe.safe_sites_include.Goals as goal

pub returns : goal.returns
returns c = λ da db who u test refuses forbids sites n command safe at met. valid da db who u (Passes test) (IsTrue refuses) (IsForbidden forbids) sites safe n command at met
