use Rattle.std.proofs.Common.{arith}
use Rattle.dia_directions.proofs.Parts.{bytes_of-take}
use Rattle.dia_directions.proofs.piece.Part.up_to.Goals as goal

pub returns : goal.returns
returns c = bytes_of-take c.args.self.bytes.now c.args.self.cut c.args.count c.min-captured.result c.min-cut.result (omega arith) (omega arith)
