use Rattle.std.proofs.Common.{sym}
use Rattle.dia_follow_text.proofs.FirstNotes.{no_next, only_theirs}
use Rattle.dia_follow_text.proofs.unanswered.first_of_responder.Goals as goal

pub returns-in-Some : goal.returns-in-Some
returns-in-Some c = λ ours none. only_theirs ours c.args.theirs.now c.in-Some.their.now none (sym c.in-Some.ensures.value)

pub returns-in-None : goal.returns-in-None
returns-in-None c = λ ours none. no_next ours c.args.theirs.now none (sym c.in-None.ensures.value)
