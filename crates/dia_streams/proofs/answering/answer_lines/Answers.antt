use Rattle.std.proofs.Common.{◌≡◌, Ok, Err, refl, ap, arith, rules}
use Rattle.dia_streams.specs.declared.fault.LinesFault.TheVariants.{NoMemory}
use Rattle.dia_streams.proofs.FeedToSink.{first_read}
use Rattle.dia_streams.proofs.answering.answer_lines.Goals as goal

pub loop-pieces_left-init : goal.loop-pieces_left-init
loop-pieces_left-init g c = record {
  sound_feed = c.requires.sound_feed;
  sound_sink = c.requires.sound_sink;
  few = omega arith;
  are_read = first_read (g.J.Judge.says c.args.judge.now) (g.J.Judge.recorded c.args.judge.now) g.W.Watch.saw (g.F.Feed.remaining c.args.feed.now)
      (g.S.Sink.written c.args.sink.now) c.args.watch.now c.new-answered.result c.new-answered.ensures.line c.new-answered.ensures.count c.new-answered.ensures.text;
}

pub returns-in_err-answer_piece-clause-front : goal.returns-in_err-answer_piece-clause-front
returns-in_err-answer_piece-clause-front g c = λ _. c.in_err-answer_piece.ensures.front _ _ _ _ refl c.loop-pieces_left.invariant.are_read

pub returns-in_err-answer_piece-clause-no_memory : goal.returns-in_err-answer_piece-clause-no_memory
returns-in_err-answer_piece-clause-no_memory g c = λ e.
    let same : c.from_residual.result ≡ Err c.in_err-answer_piece.field-0.0 = search rules in
    let is : c.in_err-answer_piece.field-0.0 ≡ NoMemory = cc in
    c.in_err-answer_piece.ensures.no_memory _ _ _ _ (ap (λ f. Err f) is) c.loop-pieces_left.invariant.are_read

pub returns-then-not-branch-clause-answered : goal.returns-then-not-branch-clause-answered
returns-then-not-branch-clause-answered g c =
    c.in_ok-answer_piece.ensures.end _ _ _ _ (ap (λ b. Ok b) c.if-not-branch.true) c.loop-pieces_left.invariant.are_read
