use Rattle.std.specs.Prelude.{IsTrue}
use Rattle.dia_follow_text.specs.Runs.{AreRead}
use Rattle.dia_follow_text.proofs.running.follow_lines.Given as goal

abbrev pub invariant-loop-pieces_left : goal.invariant-loop-pieces_left
invariant-loop-pieces_left g l = record {
  sound_feed : ¬ IsTrue (g.F.Feed.has_failed l.feed);
  sound_sink : ¬ IsTrue (g.S.Sink.has_failed l.sink);
  are_read : AreRead (g.B.Book.meaning l.manner.book.now) l.manner.options (g.F.Feed.remaining l.initial.feed) (g.F.Feed.remaining l.feed)
      (g.S.Sink.written l.initial.sink) (g.S.Sink.written l.sink) l.answered;
}

abbrev pub decreases-loop-pieces_left : goal.decreases-loop-pieces_left
decreases-loop-pieces_left g l = l.pieces_left
