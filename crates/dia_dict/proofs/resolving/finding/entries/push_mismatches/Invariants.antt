use Rattle.std.proofs.Common.{◌≡◌, ◌++◌, map, filter, take}
use Rattle.dia_ccf.specs.Plain.{plain_source}
use Rattle.dia_dict.specs.Resolution.{mismatch_of, is_mismatched}
use Rattle.dia_dict.specs.SourceChecks.{plain_finding, placed_def}
use Rattle.dia_dict.proofs.resolving.finding.entries.push_mismatches.Given as goal

abbrev pub invariant-loop-group : goal.invariant-loop-group
invariant-loop-group l = map plain_finding l.findings.items ≡ map plain_finding l.initial.findings.items
    ++ map (mismatch_of (plain_source l.names.source.now)) (filter (λ g. is_mismatched (plain_source l.names.source.now) g.1) (map placed_def (take l.group-index l.groups)))
