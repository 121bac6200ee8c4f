use Rattle.std.proofs.Common.{◌≡◌, take}
use Rattle.std.specs.HashSet.{contains}
use Rattle.dia_book.specs.Keys.{same_key}
use Rattle.dia_wire.specs.declared.Key.{Key}
use Rattle.dia_diff.specs.Ignored.{is_broken}
use Rattle.dia_diff.proofs.ignored.broken_keys.Given as goal

abbrev pub invariant-loop-line : goal.invariant-loop-line
invariant-loop-line l = (key : Key) → contains same_key l.found key ≡ is_broken (take l.line-index l.lines) key
