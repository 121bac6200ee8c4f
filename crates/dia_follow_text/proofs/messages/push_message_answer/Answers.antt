use Rattle.std.specs.Prelude.{string_bytes}
use Rattle.dia_follow_text.specs.Answers.{finding, message_text}
use Rattle.dia_follow_text.proofs.Appended.{all_found, one_more_found}
use Rattle.dia_follow_text.proofs.messages.push_message_answer.Goals as goal

pub loop-reason-preserved : goal.loop-reason-preserved
loop-reason-preserved g c = one_more_found (finding c.args.manner.now.options.json c.args.end c.args.moment.now c.args.verdict.now) c.args.found.now c.loop-reason.reason-index _ _ _ _
    c.loop-reason-test.true c.loop-reason.invariant c.in_ok-push_finding.ensures

pub returns : goal.returns
returns g c = all_found (finding c.args.manner.now.options.json c.args.end c.args.moment.now c.args.verdict.now) c.args.found.now c.loop-reason.reason-index (string_bytes c.args.text.now)
    (message_text c.args.manner.now.options.json (g.B.Book.meaning c.args.manner.now.book.now) c.args.end c.args.moment.now) _ c.loop-reason-test.false c.loop-reason.invariant
