use Rattle.std.proofs.Common.{◌≡◌, Ok, Err, refl, ap, arith, rules, inl, inr}
use Rattle.dia_streams.specs.declared.fault.LinesFault.TheVariants.{NoMemory, Endless}
use Rattle.dia_streams.proofs.FeedToSink.{long_feed}
use Rattle.dia_streams.specs.Streams.{most_places}
use Rattle.dia_streams.proofs.StreamToSink.{first_read, some_of_whole, whole_now}
use Rattle.dia_streams.proofs.streaming.answer_stream.Goals as goal

pub loop-pieces_left-init : goal.loop-pieces_left-init
loop-pieces_left-init g c = record {
  sound_feed = c.requires.sound_feed;
  sound_sink = c.requires.sound_sink;
  few = omega arith;
  are_read = first_read (g.J.MessageJudge.says c.args.judge.now) (g.J.MessageJudge.recorded c.args.judge.now) g.W.Watch.saw
      (g.F.Feed.remaining c.args.feed.now) (g.S.Sink.written c.args.sink.now) c.args.watch.now c.new-streamed.result
      c.new-streamed.ensures.half c.new-streamed.ensures.bytes c.new-streamed.ensures.at c.new-streamed.ensures.text;
}

pub returns-in_err-answer_piece-clause-front : goal.returns-in_err-answer_piece-clause-front
returns-in_err-answer_piece-clause-front g c = λ _. c.in_err-answer_piece.ensures.front _ _ _ _ refl c.loop-pieces_left.invariant.are_read

pub returns-in_err-answer_piece-clause-no_memory : goal.returns-in_err-answer_piece-clause-no_memory
returns-in_err-answer_piece-clause-no_memory g c = λ e.
    let same : c.from_residual.result ≡ Err c.in_err-answer_piece.field-0.0 = search rules in
    let is : c.in_err-answer_piece.field-0.0 ≡ NoMemory = cc in
    c.in_err-answer_piece.ensures.whole _ _ _ _ (inl (ap (λ f. Err f) is)) c.loop-pieces_left.invariant.are_read

pub returns-in_err-answer_piece-clause-endless : goal.returns-in_err-answer_piece-clause-endless
returns-in_err-answer_piece-clause-endless g c = λ e.
    let same : c.from_residual.result ≡ Err c.in_err-answer_piece.field-0.0 = search rules in
    let is : c.in_err-answer_piece.field-0.0 ≡ Endless = cc in
    c.in_err-answer_piece.ensures.whole _ _ _ _ (inr (ap (λ f. Err f) is)) c.loop-pieces_left.invariant.are_read

pub returns-then-not-branch-clause-recorded : goal.returns-then-not-branch-clause-recorded
returns-then-not-branch-clause-recorded g c =
    c.in_ok-answer_piece.ensures.end _ _ _ _ (ap (λ b. Ok b) c.if-not-branch.true) c.loop-pieces_left.invariant.are_read

pub returns-clause-front : goal.returns-clause-front
returns-clause-front g c = λ _.
    some_of_whole (g.J.MessageJudge.says c.args.judge.now) (g.J.MessageJudge.recorded c.args.judge.now) g.W.Watch.saw _ _ _ _
    (whole_now (g.J.MessageJudge.says c.args.judge.now) (g.J.MessageJudge.recorded c.args.judge.now) g.W.Watch.saw _ _ _ _ _ _ c.loop-pieces_left.streamed _ c.loop-pieces_left.invariant.are_read)

pub returns-clause-endless : goal.returns-clause-endless
returns-clause-endless g c = λ _.
    whole_now (g.J.MessageJudge.says c.args.judge.now) (g.J.MessageJudge.recorded c.args.judge.now) g.W.Watch.saw _ _ _ _ _ _ c.loop-pieces_left.streamed _ c.loop-pieces_left.invariant.are_read

pub returns-in_err-answer_piece-clause-pieces : goal.returns-in_err-answer_piece-clause-pieces
returns-in_err-answer_piece-clause-pieces g c = λ e.
    let same : c.from_residual.result ≡ Err c.in_err-answer_piece.field-0.0 = search rules in
    let is : c.in_err-answer_piece.field-0.0 ≡ Endless = cc in
    c.in_err-answer_piece.ensures.pieces _ _ _ _ (ap (λ f. Err f) is) c.loop-pieces_left.invariant.are_read

pub returns-clause-pieces : goal.returns-clause-pieces
returns-clause-pieces g c = λ _.
    let a = c.loop-pieces_left.invariant.are_read in
    long_feed (g.F.Feed.remaining c.args.feed.now) (g.F.Feed.remaining c.loop-pieces_left.feed) most_places a.read a.consumed
    (omega (arith, a.counted, c.loop-pieces_left-test.false))
