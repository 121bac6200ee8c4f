use Rattle.std.proofs.Common.{sym}
use Rattle.dia_follow_text.proofs.unanswered.next_unanswered.Goals as goal

pub returns-in-Some : goal.returns-in-Some
returns-in-Some c = c.earlier.ensures c.args.ours.now (sym c.in-Some.ensures.value)

pub returns-in-None : goal.returns-in-None
returns-in-None c = c.first_of_responder.ensures c.args.ours.now (sym c.in-None.ensures.value)
