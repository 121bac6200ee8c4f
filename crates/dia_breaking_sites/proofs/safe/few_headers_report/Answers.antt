use Rattle.std.specs.Prelude.{IsTrue}
use Rattle.dia_breaking_sites.specs.Selection.{IsForbidden}
use Rattle.dia_breaking_sites.proofs.Selected.{met}
use Rattle.dia_breaking_sites.proofs.safe.few_headers_report.Goals as goal

pub returns : goal.returns
returns c = λ da db sites refuses forbids n command sa sb at m. met da db sa sb sites (IsTrue refuses) (IsForbidden forbids) command n at m
