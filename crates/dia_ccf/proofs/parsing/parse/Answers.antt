use Rattle.std.proofs.Common.{◌∙◌}
use Rattle.dia_ccf.proofs.ReaderAnswers.{only_no_memory}
use Rattle.dia_ccf.proofs.parsing.parse.Goals as goal

pub returns-in-Err-clause-only : goal.returns-in-Err-clause-only
returns-in-Err-clause-only c = λ source small derived. c.fault.ensures ∙ only_no_memory c.in-Err.refused (c.in-Err.ensures.only source small derived)
