use Rattle.std.proofs.Common.{◌≡◌, [], map, take}
use Rattle.dia_terms.specs.Names.{same_bytes}
use Rattle.dia_dict.specs.Resolution.{placed, part_at, firsts}
use Rattle.dia_dict.specs.SourceChecks.{named_part}
use Rattle.dia_dict.proofs.resolving.parts.first_parts.Given as goal

abbrev pub invariant-loop-index : goal.invariant-loop-index
invariant-loop-index g l = map named_part l.parts.value.entries
    ≡ map (λ x. (g.T.Named.name x.1, x)) (firsts (λ a b. same_bytes (g.T.Named.name a.1) (g.T.Named.name b.1)) [] (placed (part_at l.kind) (take l.index l.items)))
