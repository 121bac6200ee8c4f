use Rattle.dia_text.proofs.Parts.{recorded_fault}
use Rattle.dia_text.proofs.many.push_message.Goals as goal

pub returns-in-Err : goal.returns-in-Err
returns-in-Err g c = rw c.following.ensures (recorded_fault _ _ _ c.in-Err.ensures.made)
