use Rattle.std.proofs.Common.{◌≡◌, map, take}
use Rattle.clap.specs.Words.{app_of}
use Rattle.dia_cli.specs.Lines.{command_of, program_app}
use Rattle.dia_cli.specs.Rows.{with_commands}
use Rattle.dia_cli.proofs.line.command_line.Given as goal

abbrev pub invariant-loop-row : goal.invariant-loop-row
invariant-loop-row l = app_of l.line ≡ with_commands l.words.policies l.words.senders program_app (map command_of (take l.row-index l.rows))
