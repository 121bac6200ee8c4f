use Rattle.std.proofs.Common.{refl}
use Rattle.dia_cli.proofs.Endings.{shown_why}
use Rattle.dia_cli.proofs.ending.show.Goals as goal

pub returns-in-Err : goal.returns-in-Err
returns-in-Err g c =
    shown_why c.in-Err.fault c.deliver.result c.of_run-ending.result _ c.failure.result _ _ _ c.report_error.result c.in-Err.is c.deliver.ensures.device
    (λ no. (c.deliver.ensures.no_memory no).1) refl c.of_run-ending.ensures c.report_error.ensures
