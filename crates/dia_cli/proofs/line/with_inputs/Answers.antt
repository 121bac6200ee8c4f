use Rattle.std.proofs.Common.{◌∙◌, ◌||◌, Bool, ap, ap₂}
use Rattle.clap.specs.Simple.{with_rule}
use Rattle.clap.specs.Words.{app_of}
use Rattle.dia_cli.specs.Lines.{has_globals, input_of}
use Rattle.dia_cli.specs.Rows.{input_rule}
use Rattle.dia_cli.proofs.Lines.{or_false, rows_more}
use Rattle.dia_cli.proofs.line.with_inputs.Goals as goal

pub loop-row-preserved : goal.loop-row-preserved
loop-row-preserved c =
    let adds = c.in_ok-line.ensures in (
      adds.shape c.arg.ensures.local ∙ ap₂ with_rule c.loop-row.invariant.0 c.arg.ensures.rule
          ∙ rows_more with_rule input_rule input_of (app_of c.args.line) c.args.rows.now c.loop-row.row-index _ c.loop-row-test.true,
      adds.globals ∙ ap (λ (b : Bool). has_globals c.loop-row.line || b) c.arg.ensures.local ∙ or_false (has_globals c.loop-row.line) ∙ c.loop-row.invariant.1,
    )
