use Rattle.std.proofs.Common.{◌≡◌, ◌++◌, string_bytes}
use Rattle.dia_show.specs.Listing.{indent}
use Rattle.dia_show.proofs.listing.push_indent.Given as goal

abbrev pub invariant-loop-left : goal.invariant-loop-left
invariant-loop-left l = string_bytes l.text ++ indent l.left ≡ string_bytes l.fn.text ++ indent l.depth

abbrev pub decreases-loop-left : goal.decreases-loop-left
decreases-loop-left l = l.left
