use Rattle.std.proofs.Common.{◌≡◌, ◌++◌, codes, string_bytes, take}
use Rattle.std.specs.List.{flat_map}
use Rattle.dia_ccf.specs.CanonicalText.{range_text}
use Rattle.dia_ccf.proofs.rendering.put_ranges.Given as goal

abbrev pub invariant-loop-range : goal.invariant-loop-range
invariant-loop-range l =
    string_bytes l.text ≡ string_bytes l.initial.text ++ flat_map (λ r. range_text r ++ codes " ") (take l.range-index l.ranges)
