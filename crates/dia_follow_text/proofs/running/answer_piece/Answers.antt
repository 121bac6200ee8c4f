use Rattle.std.proofs.Common.{◌∙◌, take, subst, sym, arith}
use Rattle.std.specs.Io.KnownBytes.{Consumes}
use Rattle.dia_follow_text.specs.UnderWay.{Ends, Reads}
use Rattle.dia_follow_text.proofs.Runs.{all_ended, end_refused, ended_bad, ended_done, ended_more, feed_failed, lines_before, ok_same, piece_bad, piece_done, piece_more}
use Rattle.dia_follow_text.proofs.Runs.{piece_read, piece_refused, same_departs, sink_failed, sink_failed_at_end}
use Rattle.dia_follow_text.proofs.running.answer_piece.Goals as goal

pub returns-in_err-count-clause-front : goal.returns-in_err-count-clause-front
returns-in_err-count-clause-front g c = λ fed put _ a.
    feed_failed (g.B.Book.meaning c.args.manner.now.book.now) c.args.manner.now.options fed _ _ put _ c.args.answered.now c.in_err-count.ensures.bytes a

pub returns-in_err-ended-clause-front : goal.returns-in_err-ended-clause-front
returns-in_err-ended-clause-front g c = λ fed put _ a.
    lines_before (g.B.Book.meaning c.args.manner.now.book.now) c.args.manner.now.options fed _ _ put _ c.args.answered.now (take c.in_ok-count.count c.get.new.buffer) c.in_ok-count.ensures.bytes.0 a

pub returns-in_err-stopped-clause-front : goal.returns-in_err-stopped-clause-front
returns-in_err-stopped-clause-front g c = λ fed put _ a.
    lines_before (g.B.Book.meaning c.args.manner.now.book.now) c.args.manner.now.options fed _ _ put _ c.args.answered.now (take c.in_ok-count.count c.get.new.buffer) c.in_ok-count.ensures.bytes.0 a

pub returns-in_err-put_answers-clause-front : goal.returns-in_err-put_answers-clause-front
returns-in_err-put_answers-clause-front g c = λ fed put _ a.
    let bytes = c.in_ok-count.ensures.bytes in
    let none = subst (λ k. Consumes (g.F.Feed.remaining c.args.feed.now) (g.F.Feed.remaining c.get.new.self) (take k c.get.new.buffer)) c.if-count-eq0.true bytes.0 in
    sink_failed_at_end (g.B.Book.meaning c.args.manner.now.book.now) c.args.manner.now.options fed _ _ put _ _ c.args.answered.now c.end.new.self none
    (bytes.1 c.if-count-eq0.true (omega (arith, c.get.auto.buffer, c.told-piece))) a c.in_ok-ended.ended c.in_ok-ended.ensures c.put_answers.ensures.front

pub returns-in_err-put_answers-2-clause-front : goal.returns-in_err-put_answers-2-clause-front
returns-in_err-put_answers-2-clause-front g c = λ fed put _ a.
    sink_failed (g.B.Book.meaning c.args.manner.now.book.now) c.args.manner.now.options fed _ _ put _ _ c.args.answered.now c.read.new.self
    (take c.in_ok-count.count c.get.new.buffer) c.in_ok-count.ensures.bytes.0 a c.in_ok-stopped.stopped c.in_ok-stopped.ensures c.put_answers-else-count-eq0.ensures.front

pub returns-in_ok-put_answers-clause-more : goal.returns-in_ok-put_answers-clause-more
returns-in_ok-put_answers-clause-more g c = λ fed put is a. absurd (ended_more c.in_ok-ended.ended (sym c.after_end.ensures ∙ ok_same _ _ is))

pub returns-in_ok-put_answers-clause-bad : goal.returns-in_ok-put_answers-clause-bad
returns-in_ok-put_answers-clause-bad g c = λ fed put bad is a.
    let bytes = c.in_ok-count.ensures.bytes in
    let none = subst (λ k. Consumes (g.F.Feed.remaining c.args.feed.now) (g.F.Feed.remaining c.get.new.self) (take k c.get.new.buffer)) c.if-count-eq0.true bytes.0 in
    end_refused (g.B.Book.meaning c.args.manner.now.book.now) c.args.manner.now.options fed _ _ put _ _ c.args.answered.now c.end.new.self none
    (bytes.1 c.if-count-eq0.true (omega (arith, c.get.auto.buffer, c.told-piece))) a c.put_answers.new.answered.number bad
    (subst (λ o. Ends (g.B.Book.meaning c.args.manner.now.book.now) c.args.manner.now.options c.args.answered.now c.end.new.self o) (ended_bad _ bad (sym c.after_end.ensures ∙ ok_same _ _ is))
    c.in_ok-ended.ensures)
    c.in_ok-put_answers.ensures.put c.in_ok-put_answers.ensures.number

pub returns-in_ok-put_answers-clause-done : goal.returns-in_ok-put_answers-clause-done
returns-in_ok-put_answers-clause-done g c = λ fed put is a.
    let bytes = c.in_ok-count.ensures.bytes in
    let none = subst (λ k. Consumes (g.F.Feed.remaining c.args.feed.now) (g.F.Feed.remaining c.get.new.self) (take k c.get.new.buffer)) c.if-count-eq0.true bytes.0 in
    all_ended (g.B.Book.meaning c.args.manner.now.book.now) c.args.manner.now.options fed _ _ put _ _ c.args.answered.now c.end.new.self none
    (bytes.1 c.if-count-eq0.true (omega (arith, c.get.auto.buffer, c.told-piece))) a c.put_answers.new.answered.state.departs
    (subst (λ o. Ends (g.B.Book.meaning c.args.manner.now.book.now) c.args.manner.now.options c.args.answered.now c.end.new.self o) (ended_done _ (sym c.after_end.ensures ∙ ok_same _ _ is))
    c.in_ok-ended.ensures)
    c.in_ok-put_answers.ensures.put (same_departs _ _ c.in_ok-put_answers.ensures.state)

pub returns-in_ok-put_answers-2-clause-more : goal.returns-in_ok-put_answers-2-clause-more
returns-in_ok-put_answers-2-clause-more g c = λ fed put is a.
    piece_read (g.B.Book.meaning c.args.manner.now.book.now) c.args.manner.now.options fed _ _ put _ _ c.args.answered.now c.read.new.self
    (take c.in_ok-count.count c.get.new.buffer) c.in_ok-count.ensures.bytes.0 a c.put_answers-else-count-eq0.new.answered
    (subst (λ o. Reads (g.B.Book.meaning c.args.manner.now.book.now) c.args.manner.now.options c.args.answered.now c.read.new.self (take c.in_ok-count.count c.get.new.buffer) o)
    (piece_more _ (sym c.after_piece.ensures ∙ ok_same _ _ is)) c.in_ok-stopped.ensures)
    c.in_ok-put_answers-2.ensures.put c.in_ok-put_answers-2.ensures.line c.in_ok-put_answers-2.ensures.number c.in_ok-put_answers-2.ensures.state c.in_ok-put_answers-2.ensures.nothing

pub returns-in_ok-put_answers-2-clause-bad : goal.returns-in_ok-put_answers-2-clause-bad
returns-in_ok-put_answers-2-clause-bad g c = λ fed put bad is a.
    piece_refused (g.B.Book.meaning c.args.manner.now.book.now) c.args.manner.now.options fed _ _ put _ _ c.args.answered.now c.read.new.self
    (take c.in_ok-count.count c.get.new.buffer) c.in_ok-count.ensures.bytes.0 a c.put_answers-else-count-eq0.new.answered.number bad
    (subst (λ o. Reads (g.B.Book.meaning c.args.manner.now.book.now) c.args.manner.now.options c.args.answered.now c.read.new.self (take c.in_ok-count.count c.get.new.buffer) o)
    (piece_bad _ bad (sym c.after_piece.ensures ∙ ok_same _ _ is)) c.in_ok-stopped.ensures)
    c.in_ok-put_answers-2.ensures.put c.in_ok-put_answers-2.ensures.number

pub returns-in_ok-put_answers-2-clause-done : goal.returns-in_ok-put_answers-2-clause-done
returns-in_ok-put_answers-2-clause-done g c = λ fed put is a. absurd (piece_done c.in_ok-stopped.stopped (sym c.after_piece.ensures ∙ ok_same _ _ is))
