use Rattle.std.proofs.Common.{◌≡◌, ℕ, ◌+◌, ◌-◌, Ok, ap, refl, subst, arith}
use Rattle.dia_streams.specs.FeedToSink.{most_pieces}
use Rattle.dia_mask_text.specs.Runs.{HasRead}
use Rattle.dia_mask_text.proofs.Runs.{first_read, not_failed, whole_lines}
use Rattle.dia_mask_text.proofs.running.mask_lines.Goals as goal

pub loop-pieces_left-init : goal.loop-pieces_left-init
loop-pieces_left-init g c = record {
  sound_feed = c.requires.sound_feed;
  sound_sink = c.requires.sound_sink;
  few = omega arith;
  has_read = first_read c.args.manner.now.choice (g.B.Book.meaning c.args.manner.now.book.now) (g.F.Feed.remaining c.args.feed.now) (g.S.Sink.written c.args.sink.now)
      c.args.state.now c.new-answered.result c.requires.numbers c.requires.none_yet c.new-answered.ensures.line c.new-answered.ensures.count c.new-answered.ensures.text;
}

pub loop-pieces_left-preserved : goal.loop-pieces_left-preserved
loop-pieces_left-preserved g c =
    let i = c.loop-pieces_left.invariant in
    let left = c.loop-pieces_left.pieces_left in
    let sound = not_failed c.in_ok-mask_piece.field-0 _ _ c.in_ok-mask_piece.ensures.device in
    let one_more : (most_pieces - left) + 1 ≡ most_pieces - (left - 1) = omega (arith, i.few, c.loop-pieces_left-test.true) in
    record {
      sound_feed = sound.0;
      sound_sink = sound.1;
      few = omega (arith, i.few);
      has_read = subst (λ (n : ℕ).
          HasRead c.args.manner.now.choice (g.B.Book.meaning c.args.manner.now.book.now) (g.F.Feed.remaining c.args.feed.now) (g.F.Feed.remaining c.mask_piece.new.feed)
          (g.S.Sink.written c.args.sink.now) (g.S.Sink.written c.mask_piece.new.sink) c.mask_piece.new.state c.mask_piece.new.answered n) one_more
          (c.in_ok-mask_piece.ensures.more _ _ _ (ap (λ b. Ok b) c.if-not-branch.false) i.has_read);
    }

pub returns-in_err-mask_piece-clause-front : goal.returns-in_err-mask_piece-clause-front
returns-in_err-mask_piece-clause-front g c = λ _. c.in_err-mask_piece.ensures.front _ _ _ refl c.loop-pieces_left.invariant.has_read

pub returns-then-not-branch-clause-masked : goal.returns-then-not-branch-clause-masked
returns-then-not-branch-clause-masked g c = c.in_ok-mask_piece.ensures.end _ _ _ (ap (λ b. Ok b) c.if-not-branch.true) c.loop-pieces_left.invariant.has_read

pub returns-clause-front : goal.returns-clause-front
returns-clause-front g c = λ _. whole_lines c.args.manner.now.choice (g.B.Book.meaning c.args.manner.now.book.now) _ _ _ _ _ _ _ c.loop-pieces_left.invariant.has_read
