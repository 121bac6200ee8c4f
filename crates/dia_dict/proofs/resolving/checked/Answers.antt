use Rattle.std.proofs.Common.{subst}
use Rattle.std.specs.Prelude.{IfErr}
use Rattle.dia_ccf.specs.declared.source.Source.{Source}
use Rattle.dia_ccf.specs.Plain.{plain_source}
use Rattle.dia_dict.specs.Resolution.{all_wrong}
use Rattle.dia_dict.specs.SourceChecks.{IsRefused}
use Rattle.dia_dict.proofs.resolving.checked.Goals as goal

pub returns-clause-err : goal.returns-clause-err
returns-clause-err c = subst (λ (s : Source). IfErr c.named.result (IsRefused (all_wrong (plain_source s)))) c.in_ok-names.ensures c.named.ensures.err
