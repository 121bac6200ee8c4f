use Rattle.std.proofs.Common.{sym, ◌∙◌}
use Rattle.dia_follow_text.proofs.FirstNotes.{only_ours, ours_next, theirs_next}
use Rattle.dia_follow_text.proofs.unanswered.earlier.Goals as goal

pub returns-in_default : goal.returns-in_default
returns-in_default c = λ ours at. only_ours ours c.args.theirs.now c.args.our.now at (sym c.in_default.ensures.value)

pub returns-then-is_earlier : goal.returns-then-is_earlier
returns-then-is_earlier c = λ ours at. theirs_next ours c.args.theirs.now c.args.our.now c.in-Some.their.now at (sym c.in-Some.ensures.value) (sym c.is_earlier.ensures ∙ c.if-is_earlier.true)

pub returns : goal.returns
returns c = λ ours at. ours_next ours c.args.theirs.now c.args.our.now c.in-Some.their.now at (sym c.in-Some.ensures.value) (sym c.is_earlier.ensures ∙ c.if-is_earlier.false)
