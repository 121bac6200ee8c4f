use Rattle.std.proofs.Common.{take, ◌<◌, length, subst, arith}
use Rattle.std.proofs.lemmas.List.{length-take}
use Rattle.std.specs.Io.KnownBytes.{Consumes}
use Rattle.dia_streams.proofs.FeedToSink.{piece_read, all_read, lines_before, front_of_lines, sink_failed, sink_failed_at_end}
use Rattle.dia_streams.proofs.answering.answer_piece.Goals as goal

pub returns-in_err-put_answers-clause-front : goal.returns-in_err-put_answers-clause-front
returns-in_err-put_answers-clause-front g c = λ fed put begun n _ a.
    let (more, ends) = c.in_ok-end.ensures in
    let bytes = c.in_ok-count.ensures.bytes in
    let none = subst (λ k. Consumes (g.F.Feed.remaining c.args.feed.now) (g.F.Feed.remaining c.get.new.self) (take k c.get.new.buffer)) c.if-count-eq0.true bytes.0 in
    sink_failed_at_end (g.J.Judge.says c.args.judge.now) (g.J.Judge.recorded c.args.judge.now) g.W.Watch.saw fed _ _ put _ _ begun c.args.watch.now c.end.new.watch
    c.args.answered.now c.end.new.self n more none ends a (bytes.1 c.if-count-eq0.true (omega (arith, c.get.auto.buffer, c.told-piece))) c.put_answers.ensures.front

pub returns-in_err-read-clause-front : goal.returns-in_err-read-clause-front
returns-in_err-read-clause-front g c = λ fed put begun n _ a.
    let P = g.J.Judge.says c.args.judge.now in
    let T = g.J.Judge.recorded c.args.judge.now in
    front_of_lines P T g.W.Watch.saw fed _ put _
    (lines_before P T g.W.Watch.saw fed _ _ put _ begun c.args.watch.now c.args.answered.now n (take c.in_ok-count.count c.get.new.buffer) c.in_ok-count.ensures.bytes.0 a)

pub returns-in_err-read-clause-no_memory : goal.returns-in_err-read-clause-no_memory
returns-in_err-read-clause-no_memory g c = λ fed put begun n _ a.
    lines_before (g.J.Judge.says c.args.judge.now) (g.J.Judge.recorded c.args.judge.now) g.W.Watch.saw fed _ _ put _ begun c.args.watch.now c.args.answered.now n
    (take c.in_ok-count.count c.get.new.buffer) c.in_ok-count.ensures.bytes.0 a

pub returns-in_err-put_answers-2-clause-front : goal.returns-in_err-put_answers-2-clause-front
returns-in_err-put_answers-2-clause-front g c = λ fed put begun n _ a.
    let (more, reads) = c.in_ok-read.ensures in
    sink_failed (g.J.Judge.says c.args.judge.now) (g.J.Judge.recorded c.args.judge.now) g.W.Watch.saw fed _ _ put _ _ begun c.args.watch.now c.read.new.watch
    c.args.answered.now c.read.new.self n (take c.in_ok-count.count c.get.new.buffer) more c.in_ok-count.ensures.bytes.0 reads a c.put_answers-else-count-eq0.ensures.front

pub returns-in_ok-put_answers-clause-end : goal.returns-in_ok-put_answers-clause-end
returns-in_ok-put_answers-clause-end g c = λ fed put begun n _ a.
    let (more, ends) = c.in_ok-end.ensures in
    let none = subst (λ k. Consumes (g.F.Feed.remaining c.args.feed.now) (g.F.Feed.remaining c.get.new.self) (take k c.get.new.buffer)) c.if-count-eq0.true
    c.in_ok-count.ensures.bytes.0 in
    all_read (g.J.Judge.says c.args.judge.now) (g.J.Judge.recorded c.args.judge.now) g.W.Watch.saw fed _ _ put _ _ begun c.args.watch.now c.end.new.watch
    c.args.answered.now c.end.new.self n more none ends a c.in_ok-put_answers.ensures.put

pub returns-in_ok-put_answers-2-clause-more : goal.returns-in_ok-put_answers-2-clause-more
returns-in_ok-put_answers-2-clause-more g c = λ fed put begun n _ a.
    let (more, reads) = c.in_ok-read.ensures in
    let some : 0 < length (take c.in_ok-count.count c.get.new.buffer) = omega (arith, length-take c.in_ok-count.count c.get.new.buffer, c.in_ok-count.ensures.within, c.if-count-eq0.false) in
    piece_read (g.J.Judge.says c.args.judge.now) (g.J.Judge.recorded c.args.judge.now) g.W.Watch.saw fed _ _ put _ _ begun c.args.watch.now c.read.new.watch
    c.args.answered.now c.read.new.self n (take c.in_ok-count.count c.get.new.buffer) more c.in_ok-count.ensures.bytes.0 reads a c.put_answers-else-count-eq0.new.answered
    some c.in_ok-put_answers-2.ensures.put c.in_ok-put_answers-2.ensures.line c.in_ok-put_answers-2.ensures.count c.in_ok-put_answers-2.ensures.nothing
