use Rattle.std.proofs.Common.{arith}
use Rattle.std.proofs.lemmas.Grind.{common_steps}
use Rattle.std.proofs.lemmas.List.Elements.{filter_map-append}
use Rattle.dia_peer.proofs.node.put_plain.Goals as goal

pub loop-app-preserved : goal.loop-app-preserved
loop-app-preserved c = grind (arith, common_steps, filter_map-append)
