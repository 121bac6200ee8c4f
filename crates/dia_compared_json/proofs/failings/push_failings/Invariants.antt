use Rattle.std.proofs.Common.{◌≡◌, ◌++◌, map, string_bytes, take, flat_map}
use Rattle.dia_compared_json.specs.Objects.{element}
use Rattle.dia_compared_json.specs.Parts.{failing_value}
use Rattle.dia_compared_json.proofs.failings.push_failings.Given as goal

abbrev pub invariant-loop-failing : goal.invariant-loop-failing
invariant-loop-failing g l = string_bytes l.elements ≡ string_bytes l.fn.elements ++ flat_map element (map (failing_value l.a l.b) (take l.failing-index l.failings))
