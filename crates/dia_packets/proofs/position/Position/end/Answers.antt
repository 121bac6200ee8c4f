use Rattle.dia_packets.proofs.BlocksUnderWay.{cut_end}
use Rattle.dia_packets.proofs.UnderWayRead.{whole_end, false_and_true}
use Rattle.dia_packets.proofs.position.Position.end.Goals as goal

pub returns-then-is_whole : goal.returns-then-is_whole
returns-then-is_whole c = λ part. whole_end c.args.self.now c.args.bytes.now (c.is_whole.ensures.0 c.if-is_whole.true)

pub returns-else-is_whole : goal.returns-else-is_whole
returns-else-is_whole c = λ part. cut_end c.args.self.now c.args.bytes.now part (λ whole. false_and_true c.is_whole.result c.if-is_whole.false (c.is_whole.ensures.1 whole))
