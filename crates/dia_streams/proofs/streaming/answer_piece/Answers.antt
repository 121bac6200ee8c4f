use Rattle.std.proofs.Common.{◌≡◌, ◌++◌, take, ◌<◌, length, Err, subst, arith, rules, true, false}
use Rattle.dia_streams.specs.declared.fault.LinesFault.TheVariants.{Endless}
use Rattle.std.proofs.lemmas.List.{length-take}
use Rattle.std.specs.Io.KnownBytes.{Consumes}
use Rattle.std.proofs.KnownBytes.{Consumes-trans}
use Rattle.dia_streams.proofs.FeedToSink.{long_feed}
use Rattle.dia_streams.specs.Streams.{most_places}
use Rattle.dia_streams.proofs.StreamToSink.{piece_read, all_over, all_read, whole_before, whole_kept, some_of_whole, sink_failed, sink_failed_at_end, ok_same}
use Rattle.dia_streams.proofs.streaming.answer_piece.Goals as goal

pub returns-in_err-count-clause-front : goal.returns-in_err-count-clause-front
returns-in_err-count-clause-front g c = λ fed put begun n _ a.
    some_of_whole (g.J.MessageJudge.says c.args.judge.now) (g.J.MessageJudge.recorded c.args.judge.now) g.W.Watch.saw fed _ put _
    (whole_kept (g.J.MessageJudge.says c.args.judge.now) (g.J.MessageJudge.recorded c.args.judge.now) g.W.Watch.saw fed _ _ put _ begun c.args.watch.now c.args.streamed.now n a c.in_err-count.ensures.bytes)

pub returns-in_err-end-clause-front : goal.returns-in_err-end-clause-front
returns-in_err-end-clause-front g c = λ fed put begun n _ a.
    some_of_whole (g.J.MessageJudge.says c.args.judge.now) (g.J.MessageJudge.recorded c.args.judge.now) g.W.Watch.saw fed _ put _
    (whole_before (g.J.MessageJudge.says c.args.judge.now) (g.J.MessageJudge.recorded c.args.judge.now) g.W.Watch.saw fed _ _ put _ begun c.args.watch.now c.args.streamed.now n a (take c.in_ok-count.count c.get.new.buffer) c.in_ok-count.ensures.bytes.0)

pub returns-in_err-end-clause-whole : goal.returns-in_err-end-clause-whole
returns-in_err-end-clause-whole g c = λ fed put begun n _ a.
    whole_before (g.J.MessageJudge.says c.args.judge.now) (g.J.MessageJudge.recorded c.args.judge.now) g.W.Watch.saw fed _ _ put _ begun c.args.watch.now c.args.streamed.now n a
    (take c.in_ok-count.count c.get.new.buffer) c.in_ok-count.ensures.bytes.0

pub returns-in_err-put_lines-clause-front : goal.returns-in_err-put_lines-clause-front
returns-in_err-put_lines-clause-front g c = λ fed put begun n _ a.
    let bytes = c.in_ok-count.ensures.bytes in
    sink_failed_at_end (g.J.MessageJudge.says c.args.judge.now) (g.J.MessageJudge.recorded c.args.judge.now) g.W.Watch.saw fed _ _ put _ _ begun c.args.watch.now c.end.new.watch
    c.args.streamed.now c.end.new.self n
    (subst (λ k. Consumes (g.F.Feed.remaining c.args.feed.now) (g.F.Feed.remaining c.get.new.self) (take k c.get.new.buffer)) c.if-count-eq0.true bytes.0)
    (bytes.1 c.if-count-eq0.true (omega (arith, c.get.auto.buffer, c.told-piece))) c.in_ok-end.ensures a c.put_lines.ensures.front

pub returns-in_err-goes_on-clause-front : goal.returns-in_err-goes_on-clause-front
returns-in_err-goes_on-clause-front g c = λ fed put begun n _ a.
    some_of_whole (g.J.MessageJudge.says c.args.judge.now) (g.J.MessageJudge.recorded c.args.judge.now) g.W.Watch.saw fed _ put _
    (whole_before (g.J.MessageJudge.says c.args.judge.now) (g.J.MessageJudge.recorded c.args.judge.now) g.W.Watch.saw fed _ _ put _ begun c.args.watch.now c.args.streamed.now n a (take c.in_ok-count.count c.get.new.buffer) c.in_ok-count.ensures.bytes.0)

pub returns-in_err-goes_on-clause-whole : goal.returns-in_err-goes_on-clause-whole
returns-in_err-goes_on-clause-whole g c = λ fed put begun n _ a.
    whole_before (g.J.MessageJudge.says c.args.judge.now) (g.J.MessageJudge.recorded c.args.judge.now) g.W.Watch.saw fed _ _ put _ begun c.args.watch.now c.args.streamed.now n a
    (take c.in_ok-count.count c.get.new.buffer) c.in_ok-count.ensures.bytes.0

pub returns-in_err-put_lines-2-clause-front : goal.returns-in_err-put_lines-2-clause-front
returns-in_err-put_lines-2-clause-front g c = λ fed put begun n _ a.
    sink_failed (g.J.MessageJudge.says c.args.judge.now) (g.J.MessageJudge.recorded c.args.judge.now) g.W.Watch.saw c.in_ok-goes_on.goes_on fed _ _ put _ _ begun c.args.watch.now c.read.new.watch
    c.args.streamed.now c.read.new.self n (take c.in_ok-count.count c.get.new.buffer) c.in_ok-count.ensures.bytes.0 c.in_ok-goes_on.ensures.reads a
    c.put_lines-else-count-eq0.ensures.front

pub returns-in_ok-put_lines-clause-end : goal.returns-in_ok-put_lines-clause-end
returns-in_ok-put_lines-clause-end g c = λ fed put begun n _ a.
    let bytes = c.in_ok-count.ensures.bytes in
    all_read (g.J.MessageJudge.says c.args.judge.now) (g.J.MessageJudge.recorded c.args.judge.now) g.W.Watch.saw fed _ _ put _ _ begun c.args.watch.now c.end.new.watch
    c.args.streamed.now c.end.new.self n
    (subst (λ k. Consumes (g.F.Feed.remaining c.args.feed.now) (g.F.Feed.remaining c.get.new.self) (take k c.get.new.buffer)) c.if-count-eq0.true bytes.0)
    (bytes.1 c.if-count-eq0.true (omega (arith, c.get.auto.buffer, c.told-piece))) c.in_ok-end.ensures a c.in_ok-put_lines.ensures.put

pub returns-in_ok-put_lines-2-clause-more : goal.returns-in_ok-put_lines-2-clause-more
returns-in_ok-put_lines-2-clause-more g c = λ fed put begun n is a.
    let piece = take c.in_ok-count.count c.get.new.buffer in
    let some : 0 < length piece = omega (arith, length-take c.in_ok-count.count c.get.new.buffer, c.in_ok-count.ensures.within, c.if-count-eq0.false) in
    piece_read (g.J.MessageJudge.says c.args.judge.now) (g.J.MessageJudge.recorded c.args.judge.now) g.W.Watch.saw c.in_ok-goes_on.goes_on fed _ _ put _ _ begun c.args.watch.now c.read.new.watch
    c.args.streamed.now c.read.new.self n piece c.in_ok-count.ensures.bytes.0 c.in_ok-goes_on.ensures.reads a
    c.put_lines-else-count-eq0.new.streamed (ok_same c.in_ok-goes_on.goes_on true is) some c.in_ok-put_lines-2.ensures.put c.in_ok-put_lines-2.ensures.digits
    c.in_ok-put_lines-2.ensures.at c.in_ok-put_lines-2.ensures.nothing

pub returns-in_ok-put_lines-2-clause-end : goal.returns-in_ok-put_lines-2-clause-end
returns-in_ok-put_lines-2-clause-end g c = λ fed put begun n is a.
    all_over (g.J.MessageJudge.says c.args.judge.now) (g.J.MessageJudge.recorded c.args.judge.now) g.W.Watch.saw c.in_ok-goes_on.goes_on fed _ _ put _ _ begun c.args.watch.now c.read.new.watch
    c.args.streamed.now c.read.new.self n (take c.in_ok-count.count c.get.new.buffer) c.in_ok-count.ensures.bytes.0 c.in_ok-goes_on.ensures.reads a
    (ok_same c.in_ok-goes_on.goes_on false is) c.in_ok-put_lines-2.ensures.put

pub returns-in_err-goes_on-clause-pieces : goal.returns-in_err-goes_on-clause-pieces
returns-in_err-goes_on-clause-pieces g c = λ fed put begun n is a.
    let piece = take c.in_ok-count.count c.get.new.buffer in
    let same : c.from_residual-in_err-goes_on.result ≡ Err c.in_err-goes_on.field-0.0 = search rules in
    let endless : c.in_err-goes_on.field-0.0 ≡ Endless = cc in
    long_feed fed (g.F.Feed.remaining c.get.new.self) most_places (a.read ++ piece)
    (Consumes-trans fed (g.F.Feed.remaining c.args.feed.now) (g.F.Feed.remaining c.get.new.self) a.read piece a.consumed c.in_ok-count.ensures.bytes.0)
    (c.in_err-goes_on.ensures.endless endless a.read a.verdicts a.under_way)
