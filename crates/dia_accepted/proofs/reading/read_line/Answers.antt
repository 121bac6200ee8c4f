use Rattle.dia_accepted.specs.Lines.{plain_line}
use Rattle.dia_accepted.proofs.LineLaws.{line_found, no_line_found}
use Rattle.dia_accepted.proofs.reading.read_line.Goals as goal

pub returns-in-Ok-clause-line : goal.returns-in-Ok-clause-line
returns-in-Ok-clause-line c = line_found c.args.words.now (plain_line c.in-Ok.line) c.in-Ok.ensures

pub returns-in-Err-clause-misfit : goal.returns-in-Err-clause-misfit
returns-in-Err-clause-misfit c = no_line_found c.args.words.now c.in-Err.rest.now _ c.saturating_sub.ensures c.in-Err.ensures
