use Rattle.std.proofs.Common.{◌-◌, ◌≤◌}
use Rattle.std.specs.Prelude.{IsTrue}
use Rattle.dia_streams.specs.FeedToSink.{most_pieces}
use Rattle.dia_mask_text.specs.Runs.{HasRead}
use Rattle.dia_mask_text.proofs.running.mask_lines.Given as goal

abbrev pub invariant-loop-pieces_left : goal.invariant-loop-pieces_left
invariant-loop-pieces_left g l = record {
  sound_feed : ¬ IsTrue (g.F.Feed.has_failed l.feed);
  sound_sink : ¬ IsTrue (g.S.Sink.has_failed l.sink);
  few : l.pieces_left ≤ most_pieces;
  has_read : HasRead l.manner.choice (g.B.Book.meaning l.manner.book.now) (g.F.Feed.remaining l.initial.feed) (g.F.Feed.remaining l.feed)
      (g.S.Sink.written l.initial.sink) (g.S.Sink.written l.sink) l.state l.answered (most_pieces - l.pieces_left);
}

abbrev pub decreases-loop-pieces_left : goal.decreases-loop-pieces_left
decreases-loop-pieces_left g l = l.pieces_left
