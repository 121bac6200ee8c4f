use Rattle.std.proofs.Common.{inr, refl}
use Rattle.dia_program.proofs.Feeds.{gives_itself}
use Rattle.dia_program.proofs.RunFailures.{failure_of}
use Rattle.dia_program.proofs.Results.{sound_sink_at_ok}
use Rattle.dia_program.specs.Captures.{fed}
use Rattle.dia_program.proofs.replying_lines.reply_to_reader.Goals as goal

pub returns-in-Ok : goal.returns-in-Ok
returns-in-Ok g c = (
  sound_sink_at_ok _ _ _ _ c.in-Ok.ensures.device,
  (
    fed (g.D.Read.remaining c.new-feed.result.feed.reader) (g.D.Read.remaining c.write_answers.new.feed.feed.reader),
    rw c.new-feed.ensures (rw c.new.ensures.remaining (gives_itself _)),
    (rw (c.requires.host, c.requires.realm) at c.in-Ok.ensures.answered, c.in-Ok.ensures.all),
  ),
)

pub returns : goal.returns
returns g c = (
  failure_of c.in-Err.fault _ _ _ _ _ _ c.ending_of.ensures c.failure.ensures c.in-Err.is c.write_answers.ensures.device,
  inr (
    fed (g.D.Read.remaining c.new-feed.result.feed.reader) (g.D.Read.remaining c.write_answers.new.feed.feed.reader),
    rw c.new-feed.ensures (rw c.new.ensures.remaining (gives_itself _)),
    rw (c.requires.host, c.requires.realm) at (c.in-Err.ensures.front refl),
  ),
)
