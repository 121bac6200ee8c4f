use Rattle.std.proofs.Common.{◌≡◌, take}
use Rattle.std.specs.List.{flat_map}
use Rattle.dia_breaking_shortest.specs.Bytes.{rule_parts}
use Rattle.dia_breaking_shortest.proofs.writing.parts_of.Given as goal

abbrev pub invariant-loop-rule : goal.invariant-loop-rule
invariant-loop-rule l = l.parts.items ≡ flat_map (rule_parts l.filler) (take l.rule-index l.rules)
