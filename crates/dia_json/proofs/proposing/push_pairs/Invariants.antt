use Rattle.std.proofs.Common.{◌≡◌, ◌++◌, map, string_bytes, take, flat_map}
use Rattle.dia_compat.specs.TableText.{plain_pair}
use Rattle.dia_json.specs.Whole.{pair_json}
use Rattle.dia_json.proofs.proposing.push_pairs.Given as goal

abbrev pub invariant-loop-pair : goal.invariant-loop-pair
invariant-loop-pair l = string_bytes l.text ≡ string_bytes l.fn.text ++ flat_map (pair_json l.kind) (map plain_pair (take l.pair-index l.pairs))
