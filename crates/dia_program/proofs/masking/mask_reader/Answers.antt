use Rattle.std.proofs.Common.{inr, refl, subst}
use Rattle.dia_mask_text.specs.Names.{Lists}
use Rattle.dia_mask_text.specs.Runs.{IsMaskBegun, IsMaskOfAll, IsMaskPut}
use Rattle.dia_program.proofs.Feeds.{gives_itself}
use Rattle.dia_program.proofs.RunFailures.{failure_of}
use Rattle.dia_program.proofs.Results.{sound_sink_at_ok}
use Rattle.dia_program.specs.Captures.{fed}
use Rattle.dia_program.proofs.masking.mask_reader.Goals as goal

pub returns-in-Ok : goal.returns-in-Ok
returns-in-Ok g c = (
  sound_sink_at_ok _ _ _ _ c.in-Ok.ensures.device,
  (
    fed (g.D.Read.remaining c.new-feed.result.feed.reader) (g.D.Read.remaining c.mask.new.feed.feed.reader),
    rw c.new-feed.ensures (rw c.new.ensures.remaining (gives_itself _)),
    record {
      masked = subst (λ (l : Lists).
          IsMaskPut l c.args.inputs.now.first (g.D.Read.remaining c.new-feed.result.feed.reader) (g.D.Read.remaining c.mask.new.feed.feed.reader) (g.W.Write.contents c.args.out.now.writer)
          (g.W.Write.contents c.mask.new.sink.writer) c.in-Ok.reported.exit) c.options_of-options.ensures c.in-Ok.ensures.exact;
      whole = subst (λ (l : Lists).
          IsMaskOfAll l c.args.inputs.now.first (g.D.Read.remaining c.new-feed.result.feed.reader) (g.W.Write.contents c.args.out.now.writer) (g.W.Write.contents c.mask.new.sink.writer)
          c.in-Ok.reported.exit) c.options_of-options.ensures c.in-Ok.ensures.pieces;
      to_the_end = c.in-Ok.ensures.all;
    },
  ),
)

pub returns : goal.returns
returns g c = (
  failure_of c.in-Err.fault _ _ _ _ _ _ c.ending_of.ensures c.failure.ensures c.in-Err.is c.mask.ensures.device,
  inr (
    fed (g.D.Read.remaining c.new-feed.result.feed.reader) (g.D.Read.remaining c.mask.new.feed.feed.reader),
    rw c.new-feed.ensures (rw c.new.ensures.remaining (gives_itself _)),
    subst (λ (l : Lists).
        IsMaskBegun l c.args.inputs.now.first (g.D.Read.remaining c.new-feed.result.feed.reader) (g.D.Read.remaining c.mask.new.feed.feed.reader) (g.W.Write.contents c.args.out.now.writer)
        (g.W.Write.contents c.mask.new.sink.writer)) c.options_of-options.ensures (c.in-Err.ensures.front refl),
  ),
)
