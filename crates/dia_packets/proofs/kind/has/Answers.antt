use Rattle.std.proofs.Common.{◌+◌, length, drop, ap, arith}
use Rattle.std.proofs.lemmas.Bool.{leb-true}
use Rattle.std.proofs.lemmas.List.{length-drop, length-take}
use Rattle.dia_packets.proofs.kind.has.Goals as goal

pub returns-else-bytes-at : goal.returns-else-bytes-at
returns-else-bytes-at c = (
  λ t. absurd (let low = leb-true (c.args.at + 4) (length c.args.bytes.now) t in omega (arith, low)),
  λ e. absurd (let same = ap length e in omega (arith, same, length-take 4 (drop c.args.at c.args.bytes.now), length-drop c.args.at c.args.bytes.now)),
)
