use Rattle.std.proofs.lemmas.Result.{IfOk-weaker}
use Rattle.dia_follow_text.proofs.DictionaryRefused.{all_followed, all_refused, answer_put, front_begun, refusal_begun, refusal_put}
use Rattle.dia_follow_text.proofs.running.follow.Goals as goal

pub returns-in-Err-clause-exact : goal.returns-in-Err-clause-exact
returns-in-Err-clause-exact g c = all_refused c.args.options.now c.args.dictionary.now (g.F.Feed.remaining c.args.feed.now) (g.S.Sink.written c.args.sink.now) (g.S.Sink.written c.refuse.new.sink)
    c.refuse.result c.refuse.ensures.put

pub returns-in-Err-clause-pieces : goal.returns-in-Err-clause-pieces
returns-in-Err-clause-pieces g c = refusal_put c.args.options.now c.args.dictionary.now (g.F.Feed.remaining c.args.feed.now) (g.S.Sink.written c.args.sink.now) (g.S.Sink.written c.refuse.new.sink)
    c.refuse.result c.refuse.ensures.put

pub returns-in-Err-clause-all : goal.returns-in-Err-clause-all
returns-in-Err-clause-all g c = IfOk-weaker c.refuse.result _ _ (λ followed bad other. absurd (other bad)) c.refuse.ensures.exit

pub returns-in-Err-clause-front : goal.returns-in-Err-clause-front
returns-in-Err-clause-front g c = λ failed.
    refusal_begun c.args.options.now c.args.dictionary.now (g.F.Feed.remaining c.args.feed.now) (g.S.Sink.written c.args.sink.now) (g.S.Sink.written c.refuse.new.sink) (c.refuse.ensures.front failed)

pub returns-clause-exact : goal.returns-clause-exact
returns-clause-exact g c = IfOk-weaker c.follow_lines.result _ _
    (λ followed h. all_followed c.args.options.now c.args.dictionary.now _ (rw (← c.deref.ensures) at c.in-Ok.ensures.book) _ _ _ _ followed.reported.exit h) c.follow_lines.ensures.exact

pub returns-clause-pieces : goal.returns-clause-pieces
returns-clause-pieces g c = IfOk-weaker c.follow_lines.result _ _
    (λ followed h. answer_put c.args.options.now c.args.dictionary.now _ (rw (← c.deref.ensures) at c.in-Ok.ensures.book) _ _ _ _ followed.reported.exit h) c.follow_lines.ensures.exact

pub returns-clause-front : goal.returns-clause-front
returns-clause-front g c = λ failed.
    front_begun c.args.options.now c.args.dictionary.now _ (rw (← c.deref.ensures) at c.in-Ok.ensures.book) _ _ _ _ (c.follow_lines.ensures.front failed)
