use Rattle.std.proofs.Common.{◌≡◌, map, take}
use Rattle.dia_dict.specs.SourceChecks.{placed_def, keyed_selector, recorded_selector}
use Rattle.dia_dict.proofs.resolving.finding.entries.selecting.Given as goal

abbrev pub invariant-loop-command : goal.invariant-loop-command
invariant-loop-command l = map keyed_selector l.selecting.items ≡ map recorded_selector (map placed_def (take l.command-index l.commands))
