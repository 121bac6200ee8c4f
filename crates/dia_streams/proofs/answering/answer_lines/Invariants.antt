use Rattle.std.proofs.Common.{◌-◌, ◌≤◌}
use Rattle.std.specs.Prelude.{IsTrue}
use Rattle.dia_streams.specs.FeedToSink.{most_pieces}
use Rattle.dia_streams.specs.LinesUnderWay.{AreRead}
use Rattle.dia_streams.proofs.answering.answer_lines.Given as goal

abbrev pub invariant-loop-pieces_left : goal.invariant-loop-pieces_left
invariant-loop-pieces_left g l = record {
  sound_feed : ¬ IsTrue (g.F.Feed.has_failed l.feed);
  sound_sink : ¬ IsTrue (g.S.Sink.has_failed l.sink);
  few : l.pieces_left ≤ most_pieces;
  are_read : AreRead (g.J.Judge.says l.judge) (g.J.Judge.recorded l.judge) g.W.Watch.saw (g.F.Feed.remaining l.initial.feed) (g.F.Feed.remaining l.feed)
      (g.S.Sink.written l.initial.sink) (g.S.Sink.written l.sink) l.initial.watch l.watch l.answered (most_pieces - l.pieces_left);
}

abbrev pub decreases-loop-pieces_left : goal.decreases-loop-pieces_left
decreases-loop-pieces_left g l = l.pieces_left
