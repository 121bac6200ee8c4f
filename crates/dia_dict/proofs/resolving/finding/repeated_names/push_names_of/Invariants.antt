use Rattle.std.proofs.Common.{◌≡◌, [], map, take}
use Rattle.dia_dict.specs.declared.fault.DictKind.TheVariants.{DuplicateName}
use Rattle.dia_dict.specs.Resolution.{wrong, part_at, placed}
use Rattle.dia_dict.specs.SourceChecks.{keyed_text}
use Rattle.dia_dict.proofs.resolving.finding.repeated_names.push_names_of.Given as goal

abbrev pub invariant-loop-index : goal.invariant-loop-index
invariant-loop-index g l = map keyed_text l.names.items ≡ map (λ n. (n.0, (n.1, wrong DuplicateName n.1 []))) (placed (part_at l.kind) (map g.T.Named.name (take l.index l.items)))
