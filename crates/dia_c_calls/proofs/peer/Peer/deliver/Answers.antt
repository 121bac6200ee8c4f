use Rattle.std.proofs.Common.{arith}
use Rattle.dia_peer.specs.Outputs.{plain_output}
use Rattle.dia_c_calls.proofs.Next.{some_left}
use Rattle.dia_c_calls.proofs.peer.Peer.deliver.Goals as goal

pub returns-then-self-len-clause-left : goal.returns-then-self-len-clause-left
returns-then-self-len-clause-left c is empty = some_left plain_output c.args.self.now.outputs.items c.args.self.now.taken (omega arith) empty
