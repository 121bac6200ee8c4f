use Rattle.dia_captures.proofs.OneMessage.{line_named}
use Rattle.dia_json.proofs.answers.refuted.Goals as goal

pub push_refuted-requires-clause-first : goal.push_refuted-requires-clause-first
push_refuted-requires-clause-first g c = line_named c.args.judge.now.unknown c.args.judge.now.levels _ c.args.message.now c.in_ok-verdict.verdict.first c.in_ok-verdict.ensures.0

pub push_refuted-requires-clause-second : goal.push_refuted-requires-clause-second
push_refuted-requires-clause-second g c = line_named c.args.judge.now.unknown c.args.judge.now.levels _ c.args.message.now c.in_ok-verdict.verdict.second c.in_ok-verdict.ensures.1

pub returns-clause-outcome : goal.returns-clause-outcome
returns-clause-outcome g c = (_, c.in_ok-verdict.ensures, (rw c.new-text.ensures.bytes at c.in_ok-push_refuted.ensures), c.exit.ensures)
