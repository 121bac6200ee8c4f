use Rattle.std.proofs.Common.{◌≡◌, ◌++◌, map, filter, take}
use Rattle.dia_ccf.specs.Plain.{plain_source}
use Rattle.dia_dict.specs.Resolution.{group_key, is_bare}
use Rattle.dia_dict.specs.SourceChecks.{placed_def, keyed_key, recorded_key}
use Rattle.dia_dict.proofs.resolving.finding.entries.push_bare.Given as goal

abbrev pub invariant-loop-group : goal.invariant-loop-group
invariant-loop-group l = map keyed_key l.avps.items ≡ map keyed_key l.initial.avps.items ++ map recorded_key (map (λ g. (g.0, (g.1.name, group_key g.1.head)))
    (filter (λ g. is_bare (plain_source l.names.source.now) g.1) (map placed_def (take l.group-index l.groups))))
