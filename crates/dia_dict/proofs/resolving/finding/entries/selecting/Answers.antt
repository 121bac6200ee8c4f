use Rattle.std.proofs.Common.{List, map, ap, ◌∙◌}
use Rattle.std.proofs.lemmas.List.{take_all}
use Rattle.dia_dict.specs.SourceChecks.{PlacedDef, placed_def, recorded_selector}
use Rattle.dia_dict.proofs.resolving.finding.entries.selecting.Goals as goal

pub returns : goal.returns
returns c =
    c.loop-command.invariant ∙ ap (λ (ds : List PlacedDef). map recorded_selector (map placed_def ds)) (take_all c.loop-command.command-index c.args.commands.now c.loop-command-test.false)
