use Rattle.std.proofs.Common.{◌≡◌, map, take}
use Rattle.std.specs.List.{list_any}
use Rattle.dia_wire.specs.declared.Key.{Key}
use Rattle.dia_compat.specs.TableText.{plain_pair}
use Rattle.dia_compat.specs.Tests.{holds_key}
use Rattle.dia_compat.specs.PairTests.{pairs_key}
use Rattle.dia_compat.proofs.comparing.covers.paired_keys.Given as goal

abbrev pub invariant-loop-pair : goal.invariant-loop-pair
invariant-loop-pair g l = (key : Key) → holds_key l.keys.value.keys key ≡ list_any (pairs_key l.a l.b key)
    (map plain_pair (take l.pair-index l.pairs))
