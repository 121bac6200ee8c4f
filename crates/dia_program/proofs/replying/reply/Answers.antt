use Rattle.std.specs.Prelude.{string_bytes}
use Rattle.dia_answer.specs.Outcome.{IsAnswerText}
use Rattle.dia_run.specs.Outcome.{IsMessageOutcome}
use Rattle.dia_program.specs.Answers.{IsNoName, IsReplied, named, unnamed}
use Rattle.dia_program.proofs.Runs.{runs_of_put, runs_weaker}
use Rattle.dia_program.proofs.Names.{is_refused}
use Rattle.dia_program.proofs.replying.reply.Goals as goal

pub returns-in-Ok : goal.returns-in-Ok
returns-in-Ok g c =
    runs_weaker (IsMessageOutcome (IsAnswerText (string_bytes c.args.asked.now.host) (string_bytes c.args.asked.now.realm) c.args.asked.now.unknown c.args.asked.now.levels) c.args.inputs.now) (IsReplied c.args.asked.now c.args.inputs.now) _ c.reply_by.result
    (λ text exit is. named (rw c.as_str.ensures.value at c.in-Ok.ensures.names.0, rw c.as_str-2.ensures.value at c.in-Ok.ensures.names.1) is) c.reply_by.ensures

pub returns-in-Err : goal.returns-in-Err
returns-in-Err g c =
    runs_weaker (IsNoName c.args.asked.now) (IsReplied c.args.asked.now c.args.inputs.now) _ c.put_answer.result (λ text exit is. unnamed is)
    (runs_of_put (IsNoName c.args.asked.now) c.name_refused.result _ c.put_answer.result
    (is_refused c.args.asked.now _ c.in-Err.fault c.in-Err.is (rw c.as_str.ensures.value at c.new.ensures.host) (rw c.as_str.ensures.value at (rw c.as_str-2.ensures.value at c.new.ensures.realm)) c.name_refused.result c.name_refused.ensures.text c.name_refused.ensures.exit) c.put_answer.ensures)
