use Rattle.std.proofs.Common.{◌≡◌, true, take}
use Rattle.std.specs.List.{list_all}
use Rattle.dia_valid.specs.Valid.{is_listed}
use Rattle.dia_compat.proofs.comparing.wildcards.lists_keys.Given as goal

abbrev pub invariant-loop-key : goal.invariant-loop-key
invariant-loop-key g l = list_all (is_listed l.a) (take l.key-index l.keys) ≡ true
