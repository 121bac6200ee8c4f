use Rattle.std.proofs.Common.{take, ◌<◌, length, subst, arith}
use Rattle.std.proofs.lemmas.List.{length-take}
use Rattle.std.specs.Io.KnownBytes.{Consumes}
use Rattle.dia_mask_text.proofs.Runs.{all_masked, feed_failed, lines_before, piece_masked, sink_failed, sink_failed_at_end}
use Rattle.dia_mask_text.proofs.running.mask_piece.Goals as goal

pub returns-in_err-count-clause-front : goal.returns-in_err-count-clause-front
returns-in_err-count-clause-front g c = λ fed put n _ a.
    feed_failed c.args.manner.now.choice (g.B.Book.meaning c.args.manner.now.book.now) fed _ _ put _ c.args.state.now c.args.answered.now n c.in_err-count.ensures.bytes a

pub returns-in_err-end-clause-front : goal.returns-in_err-end-clause-front
returns-in_err-end-clause-front g c = λ fed put n _ a.
    lines_before c.args.manner.now.choice (g.B.Book.meaning c.args.manner.now.book.now) fed _ _ put _ c.args.state.now c.args.answered.now n
    (take c.in_ok-count.count c.get.new.buffer) c.in_ok-count.ensures.bytes.0 a

pub returns-in_err-read-clause-front : goal.returns-in_err-read-clause-front
returns-in_err-read-clause-front g c = λ fed put n _ a.
    lines_before c.args.manner.now.choice (g.B.Book.meaning c.args.manner.now.book.now) fed _ _ put _ c.args.state.now c.args.answered.now n
    (take c.in_ok-count.count c.get.new.buffer) c.in_ok-count.ensures.bytes.0 a

pub returns-in_err-put_answers-clause-front : goal.returns-in_err-put_answers-clause-front
returns-in_err-put_answers-clause-front g c = λ fed put n _ a.
    let bytes = c.in_ok-count.ensures.bytes in
    let none = subst (λ k. Consumes (g.F.Feed.remaining c.args.feed.now) (g.F.Feed.remaining c.get.new.self) (take k c.get.new.buffer)) c.if-count-eq0.true bytes.0 in
    sink_failed_at_end c.args.manner.now.choice (g.B.Book.meaning c.args.manner.now.book.now) fed _ _ put _ _ c.args.state.now c.end.new.state c.args.answered.now c.end.new.self n none a
    c.in_ok-end.ensures.grows c.in_ok-end.ensures.lines (bytes.1 c.if-count-eq0.true (omega (arith, c.get.auto.buffer, c.told-piece))) c.put_answers.ensures.front

pub returns-in_err-put_answers-2-clause-front : goal.returns-in_err-put_answers-2-clause-front
returns-in_err-put_answers-2-clause-front g c = λ fed put n _ a.
    sink_failed c.args.manner.now.choice (g.B.Book.meaning c.args.manner.now.book.now) fed _ _ put _ _ c.args.state.now c.read.new.state c.args.answered.now c.read.new.self n
    (take c.in_ok-count.count c.get.new.buffer) c.in_ok-count.ensures.bytes.0 a c.in_ok-read.ensures.grows c.in_ok-read.ensures.lines c.put_answers-else-count-eq0.ensures.front

pub returns-in_ok-put_answers-clause-end : goal.returns-in_ok-put_answers-clause-end
returns-in_ok-put_answers-clause-end g c = λ fed put n _ a.
    let none = subst (λ k. Consumes (g.F.Feed.remaining c.args.feed.now) (g.F.Feed.remaining c.get.new.self) (take k c.get.new.buffer)) c.if-count-eq0.true c.in_ok-count.ensures.bytes.0 in
    all_masked c.args.manner.now.choice (g.B.Book.meaning c.args.manner.now.book.now) fed _ _ put _ _ c.args.state.now c.end.new.state c.args.answered.now c.end.new.self n none a
    c.in_ok-end.ensures.grows c.in_ok-end.ensures.lines c.in_ok-put_answers.ensures.put

pub returns-in_ok-put_answers-2-clause-more : goal.returns-in_ok-put_answers-2-clause-more
returns-in_ok-put_answers-2-clause-more g c = λ fed put n _ a.
    let some : 0 < length (take c.in_ok-count.count c.get.new.buffer) = omega (arith, length-take c.in_ok-count.count c.get.new.buffer, c.in_ok-count.ensures.within, c.if-count-eq0.false) in
    piece_masked c.args.manner.now.choice (g.B.Book.meaning c.args.manner.now.book.now) fed _ _ put _ _ c.args.state.now c.read.new.state c.args.answered.now c.read.new.self n
    (take c.in_ok-count.count c.get.new.buffer) c.in_ok-count.ensures.bytes.0 a c.in_ok-read.ensures.grows c.in_ok-read.ensures.lines c.put_answers-else-count-eq0.new.answered
    some c.in_ok-put_answers-2.ensures.put c.in_ok-put_answers-2.ensures.line c.in_ok-put_answers-2.ensures.count c.in_ok-put_answers-2.ensures.nothing
