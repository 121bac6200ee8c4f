use Rattle.dia_differences.proofs.SameMessages.{same_messages}
use Rattle.dia_differences.proofs.laws.same_messages.Goals as goal

pub returns : goal.returns
returns c = same_messages
