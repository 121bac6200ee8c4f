use Rattle.std.proofs.Common.{◌≡◌, ◌++◌, map, take}
use Rattle.dia_ccf.specs.Plain.{plain_source, plain_def}
use Rattle.dia_dict.specs.Resolution.{part_at, placed, bad_rules}
use Rattle.dia_dict.specs.SourceChecks.{plain_finding}
use Rattle.dia_dict.proofs.resolving.finding.rule_faults.push_rules_of.Given as goal

abbrev pub invariant-loop-index : goal.invariant-loop-index
invariant-loop-index l = map plain_finding l.findings.items ≡ map plain_finding l.initial.findings.items
    ++ bad_rules l.kind (plain_source l.names.source.now) (placed (part_at l.of) (map plain_def (take l.index l.defs)))
