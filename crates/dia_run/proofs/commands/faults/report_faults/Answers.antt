use Rattle.std.proofs.lemmas.Bool.{both_ways}
use Rattle.dia_run.specs.AllFaults.{unlisted}
use Rattle.dia_run.proofs.AllFaultsRecorded.{faults_recorded, recorded_if, recorded_if_both, valid_recorded}
use Rattle.dia_run.proofs.commands.faults.report_faults.Goals as goal

pub returns-then-is_none : goal.returns-then-is_none
returns-then-is_none g c =
    let (n, valid) = c.in-Ok.ensures.none.0 (c.is_none.ensures.0 c.if-is_none.true) in
    recorded_if _ _ c.verdict.result c.verdict.ensures (λ outcome recorded. valid_recorded (g.B.Book.meaning c.args.book.now) c.args.unknown c.args.levels c.args.most c.args.message.now _ _ c.check-answer.result
    c.check-answer.ensures.answer n (c.check-answer.ensures.valid n valid) recorded)

pub returns-in-Ok : goal.returns-in-Ok
returns-in-Ok g c =
    let (all, are, firsts) = c.in-Ok.ensures.faults in
    recorded_if_both _ _ _ c.deliver.result c.deliver.ensures.text c.deliver.ensures.exit (λ outcome is_text is_exit. faults_recorded (g.B.Book.meaning c.args.book.now) c.args.unknown c.args.levels c.args.most
    c.args.message.now _ _ all c.in-Ok.listed.faults.items c.in-Ok.listed.more are firsts (λ none. both_ways c.is_none.result c.if-is_none.false (c.is_none.ensures.1 none)) is_text is_exit)

pub returns : goal.returns
returns g c = recorded_if _ _ c.verdict-in-Err.result c.verdict-in-Err.ensures (λ outcome recorded. unlisted c.in-Err.refusal c.in-Err.ensures.unlisted recorded)
