use Rattle.std.proofs.Common.{◌≡◌, take}
use Rattle.std.specs.List.{filter_map}
use Rattle.dia_breaking.specs.Headers.{row_app}
use Rattle.dia_breaking.proofs.apps.apps_in.Given as goal

abbrev pub invariant-loop-row : goal.invariant-loop-row
invariant-loop-row l = l.apps.items ≡ filter_map (row_app l.class) (take l.row-index l.rows)
