use Rattle.std.proofs.Common.{◌≡◌, ◌++◌, map, string_bytes, take}
use Rattle.dia_compat.specs.TableText.{plain_pair}
use Rattle.dia_compat.specs.WrittenTable.{pair_lines}
use Rattle.dia_compat.proofs.table.rendering.push_lines.Given as goal

abbrev pub invariant-loop-pair : goal.invariant-loop-pair
invariant-loop-pair l = string_bytes l.text ≡ string_bytes l.initial.text ++ pair_lines l.word (map plain_pair (take l.pair-index l.pairs))
