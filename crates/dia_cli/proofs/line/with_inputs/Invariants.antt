use Rattle.std.proofs.Common.{◌≡◌, map, take}
use Rattle.clap.specs.Words.{app_of}
use Rattle.dia_cli.specs.Lines.{has_globals, input_of}
use Rattle.dia_cli.specs.Rows.{with_inputs}
use Rattle.dia_cli.proofs.line.with_inputs.Given as goal

abbrev pub invariant-loop-row : goal.invariant-loop-row
invariant-loop-row l =
    (app_of l.line ≡ with_inputs (app_of l.fn.line) (map input_of (take l.row-index l.rows))) × (has_globals l.line ≡ has_globals l.fn.line)
