use Rattle.std.proofs.Common.{◌-◌, refl, arith}
use Rattle.std.proofs.lemmas.List.{take_rest}
use Rattle.dia_packets.proofs.BlocksUnderWay.{Reads-passed}
use Rattle.dia_packets.proofs.position.Position.pass_over.Goals as goal

pub returns-clause-reads : goal.returns-clause-reads
returns-clause-reads c = λ packets.
    Reads-passed c.args.passed (record { order = c.args.passed.order; size = c.args.passed.size; left = c.args.passed.left - c.min-count.result }) c.args.self.now _ packets
    c.args.bytes.now _ c.min-count.result c.requires.state (omega (arith, c.min-count.ensures)) (omega (arith, c.min-count.ensures)) refl refl refl refl refl
    (take_rest c.args.bytes.now c.min-count.result)
