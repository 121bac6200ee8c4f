use Rattle.std.proofs.Common.{◌≡◌, true, take}
use Rattle.std.specs.List.{list_all}
use Rattle.dia_show.specs.ByteKinds.{is_of}
use Rattle.dia_show.proofs.byte_kinds.all_are.Given as goal

abbrev pub invariant-loop-byte : goal.invariant-loop-byte
invariant-loop-byte l = list_all (is_of l.kind) (take l.byte-index l.text) ≡ true
