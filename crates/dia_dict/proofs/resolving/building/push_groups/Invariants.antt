use Rattle.std.proofs.Common.{◌≡◌, ◌++◌, map, filter, take}
use Rattle.dia_ccf.specs.Plain.{plain_source, plain_def}
use Rattle.dia_dict.specs.PlainMeaning.{entries_of}
use Rattle.dia_dict.specs.Resolution.{bare_entry, is_bare}
use Rattle.dia_dict.proofs.resolving.building.push_groups.Given as goal

abbrev pub invariant-loop-group : goal.invariant-loop-group
invariant-loop-group l =
    entries_of l.entries.rows.items l.entries.groups.items ≡ entries_of l.initial.entries.rows.items l.initial.entries.groups.items
    ++ map (bare_entry (plain_source l.names.source.now)) (filter (is_bare (plain_source l.names.source.now)) (map plain_def (take l.group-index l.groups)))
