use Rattle.dia_lint.proofs.SameMessages.{messages_without}
use Rattle.dia_lint.proofs.laws.messages_without_rules.Goals as goal

pub returns : goal.returns
returns c = messages_without
