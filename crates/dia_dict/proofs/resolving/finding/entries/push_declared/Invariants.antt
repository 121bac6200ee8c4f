use Rattle.std.proofs.Common.{◌≡◌, ◌++◌, map, take}
use Rattle.dia_dict.specs.Resolution.{key_of_decl}
use Rattle.dia_dict.specs.SourceChecks.{placed_decl, keyed_key, recorded_key}
use Rattle.dia_dict.proofs.resolving.finding.entries.push_declared.Given as goal

abbrev pub invariant-loop-decl : goal.invariant-loop-decl
invariant-loop-decl l =
    map keyed_key l.avps.items ≡ map keyed_key l.initial.avps.items ++ map recorded_key (map (λ d. (d.0, (d.1.name, key_of_decl d.1))) (map placed_decl (take l.decl-index l.decls)))
