use Rattle.std.proofs.Common.{◌≡◌, ◌++◌, [], map, take}
use Rattle.dia_ccf.specs.Plain.{plain_source}
use Rattle.dia_dict.specs.declared.fault.DictKind.TheVariants.{NoGroupFormat}
use Rattle.dia_dict.specs.Resolution.{wrong, alone, lacks_group}
use Rattle.dia_dict.specs.SourceChecks.{plain_finding, placed_decl}
use Rattle.dia_dict.proofs.resolving.finding.entries.push_lacking.Given as goal

abbrev pub invariant-loop-decl : goal.invariant-loop-decl
invariant-loop-decl l = map plain_finding l.findings.items ≡ map plain_finding l.initial.findings.items
    ++ alone (lacks_group (plain_source l.names.source.now)) (λ d. wrong NoGroupFormat d.name []) (map placed_decl (take l.decl-index l.decls))
