use Rattle.std.proofs.Common.{refl}
use Rattle.std.specs.Prelude.{string_bytes}
use Rattle.dia_answer.specs.Outcome.{IsAnswerText}
use Rattle.dia_run.specs.Outcome.{IsMessageOutcome}
use Rattle.dia_program.proofs.Results.{sound_at_ok}
use Rattle.dia_program.proofs.RunFailures.{breaks}
use Rattle.dia_program.proofs.replying.reply_by.Goals as goal

pub returns-in-Ok : goal.returns-in-Ok
returns-in-Ok g c = let t = c.in-Ok.ensures.text in (sound_at_ok _ _ _ c.in-Ok.ensures.device, (t.0, rw (c.requires.host, c.requires.realm) at t.1, t.2))

pub returns-in-Err : goal.returns-in-Err
returns-in-Err g c =
    let asked = c.args.asked.now in
    breaks (IsMessageOutcome (IsAnswerText (string_bytes asked.host) (string_bytes asked.realm) asked.unknown asked.levels) c.args.inputs.now) c.in-Err.fault _ _
    (g.W.Write.contents c.args.out.now.writer) (g.W.Write.contents c.write_answer.new.sink.writer) _ _ _ c.of_run.ensures c.in-Err.is c.write_answer.ensures.device refl
    (λ e. let f = c.write_answer.ensures.front e in (f.0, f.1, rw (c.requires.host, c.requires.realm) at f.2, f.3)) c.write_answer.ensures.no_memory
