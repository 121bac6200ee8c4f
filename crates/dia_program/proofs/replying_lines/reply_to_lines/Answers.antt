use Rattle.dia_program.specs.Answers.{IsNoName}
use Rattle.dia_program.specs.Replies.{named, unnamed}
use Rattle.dia_program.proofs.Runs.{runs_of_put}
use Rattle.dia_program.proofs.Names.{is_refused}
use Rattle.dia_program.proofs.replying_lines.reply_to_lines.Goals as goal

pub returns-in-Ok : goal.returns-in-Ok
returns-in-Ok g c = named (rw c.as_str.ensures.value at c.in-Ok.ensures.names.0, rw c.as_str-2.ensures.value at c.in-Ok.ensures.names.1) c.reply_to_all.ensures

pub returns-in-Err : goal.returns-in-Err
returns-in-Err g c =
    unnamed (runs_of_put (IsNoName c.args.asked.now) c.name_refused.result _ c.put_answer.result
    (is_refused c.args.asked.now _ c.in-Err.fault c.in-Err.is (rw c.as_str.ensures.value at c.new.ensures.host) (rw c.as_str.ensures.value at (rw c.as_str-2.ensures.value at c.new.ensures.realm)) c.name_refused.result c.name_refused.ensures.text c.name_refused.ensures.exit) c.put_answer.ensures)
