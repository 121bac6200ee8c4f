use Rattle.std.proofs.Common.{◌≡◌, ◌++◌, map, string_bytes, take, flat_map}
use Rattle.dia_compared_json.specs.Objects.{element, range_value}
use Rattle.dia_compared_json.proofs.declarations.push_ranges.Given as goal

abbrev pub invariant-loop-range : goal.invariant-loop-range
invariant-loop-range l = string_bytes l.elements ≡ string_bytes l.fn.elements ++ flat_map element (map range_value (take l.range-index l.ranges))
