use Rattle.dia_captures.proofs.OneMessage.{line_named}
use Rattle.dia_json.proofs.answers.checked.Goals as goal

pub push_checked-requires : goal.push_checked-requires
push_checked-requires g c = line_named c.args.unknown c.args.levels _ c.args.message.now c.in_ok-verdict.verdict c.in_ok-verdict.ensures

pub returns-clause-outcome : goal.returns-clause-outcome
returns-clause-outcome g c = (_, c.in_ok-verdict.ensures, (rw c.new-text.ensures.bytes at c.in_ok-push_checked.ensures), c.exit.ensures)
