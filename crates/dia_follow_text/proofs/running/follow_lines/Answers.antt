use Rattle.std.proofs.Common.{Ok, ap, refl, sym, subst}
use Rattle.dia_follow_text.specs.Runs.{AreEnded}
use Rattle.dia_follow_text.proofs.Runs.{first_read, refusal_begun, refused_exact, whole_lines}
use Rattle.dia_follow_text.proofs.running.follow_lines.Goals as goal

pub loop-pieces_left-init : goal.loop-pieces_left-init
loop-pieces_left-init g c = record {
  sound_feed = c.requires.sound_feed;
  sound_sink = c.requires.sound_sink;
  are_read = first_read (g.B.Book.meaning c.args.manner.now.book.now) c.args.manner.now.options (g.F.Feed.remaining c.args.feed.now) (g.S.Sink.written c.args.sink.now)
      c.new-answered.result c.new-answered.ensures.line c.new-answered.ensures.progress c.new-answered.ensures.text;
}

pub returns-in_err-answer_piece-clause-front : goal.returns-in_err-answer_piece-clause-front
returns-in_err-answer_piece-clause-front g c = λ _. c.in_err-answer_piece.ensures.front _ _ refl c.loop-pieces_left.invariant.are_read

pub returns-in-Bad-clause-exact : goal.returns-in-Bad-clause-exact
returns-in-Bad-clause-exact g c = refused_exact (g.B.Book.meaning c.args.manner.now.book.now) c.args.manner.now.options _ _ _ _ _ c.answer_piece.new.answered.number c.in-Bad.bad
    (c.in_ok-answer_piece.ensures.bad _ _ c.in-Bad.bad (ap (λ p. Ok p) c.in-Bad.is) c.loop-pieces_left.invariant.are_read)
    c.refuse_line.result c.refuse_line.ensures.put c.refuse_line.ensures.exit

pub returns-in-Bad-clause-front : goal.returns-in-Bad-clause-front
returns-in-Bad-clause-front g c = λ failed. refusal_begun (g.B.Book.meaning c.args.manner.now.book.now) c.args.manner.now.options _ _ _ _ _ c.answer_piece.new.answered.number c.in-Bad.bad
    (c.in_ok-answer_piece.ensures.bad _ _ c.in-Bad.bad (ap (λ p. Ok p) c.in-Bad.is) c.loop-pieces_left.invariant.are_read)
    (c.refuse_line.ensures.front failed)

pub returns-in-Done-clause-exact : goal.returns-in-Done-clause-exact
returns-in-Done-clause-exact g c = subst (AreEnded (g.B.Book.meaning c.args.manner.now.book.now) c.args.manner.now.options _ _ _ _) (sym c.ended.ensures)
    (c.in_ok-answer_piece.ensures.done _ _ (ap (λ p. Ok p) c.in-Done.is) c.loop-pieces_left.invariant.are_read)

pub returns-in-Done-clause-all : goal.returns-in-Done-clause-all
returns-in-Done-clause-all g c = λ _. c.in_ok-answer_piece.ensures.all (ap (λ p. Ok p) c.in-Done.is)

pub returns-clause-front : goal.returns-clause-front
returns-clause-front g c = λ _. whole_lines (g.B.Book.meaning c.args.manner.now.book.now) c.args.manner.now.options _ _ _ _ c.loop-pieces_left.answered c.loop-pieces_left.invariant.are_read
