use Rattle.std.proofs.Common.{inr, refl, subst}
use Rattle.dia_program.proofs.Feeds.{gives_itself}
use Rattle.dia_program.proofs.RunFailures.{failure_of}
use Rattle.dia_program.proofs.Results.{sound_sink_at_ok}
use Rattle.dia_follow_text.specs.declared.options.Options.{Options}
use Rattle.dia_follow_text.specs.Runs.{IsAnswerPut, IsFollowBegun}
use Rattle.dia_program.specs.Captures.{fed}
use Rattle.dia_program.proofs.following.follow_reader.Goals as goal

pub returns-in-Ok : goal.returns-in-Ok
returns-in-Ok g c = (
  sound_sink_at_ok _ _ _ _ c.in-Ok.ensures.device,
  (
    fed (g.D.Read.remaining c.new-feed.result.feed.reader) (g.D.Read.remaining c.follow.new.feed.feed.reader),
    rw c.new-feed.ensures (rw c.new.ensures.remaining (gives_itself _)),
    record {
      followed = rw (← c.options_of-options.ensures) c.in-Ok.ensures.exact;
      whole = subst (λ (o : Options).
          IsAnswerPut o c.args.inputs.now.first (g.D.Read.remaining c.new-feed.result.feed.reader) (g.W.Write.contents c.args.out.now.writer) (g.W.Write.contents c.follow.new.sink.writer)
          c.in-Ok.followed.reported.exit) c.options_of-options.ensures c.in-Ok.ensures.pieces;
      to_the_end = c.in-Ok.ensures.all;
    },
  ),
)

pub returns : goal.returns
returns g c = (
  failure_of c.in-Err.fault _ _ _ _ _ _ c.ending_of.ensures c.failure.ensures c.in-Err.is c.follow.ensures.device,
  inr (
    fed (g.D.Read.remaining c.new-feed.result.feed.reader) (g.D.Read.remaining c.follow.new.feed.feed.reader),
    rw c.new-feed.ensures (rw c.new.ensures.remaining (gives_itself _)),
    subst (λ (o : Options).
        IsFollowBegun o c.args.inputs.now.first (g.D.Read.remaining c.new-feed.result.feed.reader) (g.D.Read.remaining c.follow.new.feed.feed.reader) (g.W.Write.contents c.args.out.now.writer)
        (g.W.Write.contents c.follow.new.sink.writer)) c.options_of-options.ensures (c.in-Err.ensures.front refl),
  ),
)
