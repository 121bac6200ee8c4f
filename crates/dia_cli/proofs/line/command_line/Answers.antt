use Rattle.std.proofs.Common.{◌∙◌, ap₂, refl}
use Rattle.clap.specs.Simple.{with_subcommand}
use Rattle.dia_cli.specs.Lines.{command_of, program_app}
use Rattle.dia_cli.specs.Rows.{row_shape}
use Rattle.dia_cli.proofs.Lines.{rows_more}
use Rattle.dia_cli.proofs.line.command_line.Goals as goal

pub loop-row-preserved : goal.loop-row-preserved
loop-row-preserved c =
    c.in_ok-line.ensures ∙ ap₂ with_subcommand c.loop-row.invariant refl
    ∙ rows_more with_subcommand (row_shape c.args.words.policies c.args.words.senders) command_of program_app c.args.rows.now c.loop-row.row-index _ c.loop-row-test.true
