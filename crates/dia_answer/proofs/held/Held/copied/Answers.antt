use Rattle.dia_answer.proofs.Flags.{cleared}
use Rattle.dia_answer.proofs.held.Held.copied.Goals as goal

pub new-requires : goal.new-requires
new-requires c = cleared c.args.self.now.avp.flags
