use Rattle.std.proofs.lemmas.Result.{IfOk-at_ok, IfOk-weaker}
use Rattle.dia_mask_text.specs.Names.{IsChoice, lists}
use Rattle.dia_mask_text.proofs.Refused.{all_refused, answer_put, front_begun, lines_put, name_refused, refusal_begun, refusal_put}
use Rattle.dia_mask_text.proofs.running.mask.Goals as goal

pub returns-in-Err-clause-exact : goal.returns-in-Err-clause-exact
returns-in-Err-clause-exact g c = all_refused (lists c.args.options.now) c.args.dictionary.now (g.F.Feed.remaining c.args.feed.now) (g.S.Sink.written c.args.sink.now)
    (g.S.Sink.written c.refuse.new.sink) c.refuse.result c.refuse.ensures.put

pub returns-in-Err-clause-pieces : goal.returns-in-Err-clause-pieces
returns-in-Err-clause-pieces g c = refusal_put (lists c.args.options.now) c.args.dictionary.now (g.F.Feed.remaining c.args.feed.now) (g.S.Sink.written c.args.sink.now)
    (g.S.Sink.written c.refuse.new.sink) c.refuse.result c.refuse.ensures.put

pub returns-in-Err-clause-front : goal.returns-in-Err-clause-front
returns-in-Err-clause-front g c = λ failed.
    refusal_begun (lists c.args.options.now) c.args.dictionary.now (g.F.Feed.remaining c.args.feed.now) (g.S.Sink.written c.args.sink.now)
    (g.S.Sink.written c.refuse.new.sink) (c.refuse.ensures.front failed)

pub returns-in-Ok-2-clause-exact : goal.returns-in-Ok-2-clause-exact
returns-in-Ok-2-clause-exact g c = IfOk-weaker c.mask_all.result _ _
    (λ reported h. lines_put (lists c.args.options.now) c.args.dictionary.now _ c.in-Ok-2.choice (rw (← c.deref-in-Ok-2.ensures) at c.in-Ok.ensures.book)
    (IfOk-at_ok (IsChoice (lists c.args.options.now) _) c.in-Ok-2.is (rw (← c.deref-in-Ok-2.ensures) at (rw c.deref.ensures at c.in_ok-choice.ensures.choice))) _ _ _ _ reported.exit h)
    c.mask_all.ensures.exact

pub returns-in-Ok-2-clause-pieces : goal.returns-in-Ok-2-clause-pieces
returns-in-Ok-2-clause-pieces g c = IfOk-weaker c.mask_all.result _ _
    (λ reported h. answer_put (lists c.args.options.now) c.args.dictionary.now _ c.in-Ok-2.choice (rw (← c.deref-in-Ok-2.ensures) at c.in-Ok.ensures.book)
    (IfOk-at_ok (IsChoice (lists c.args.options.now) _) c.in-Ok-2.is (rw (← c.deref-in-Ok-2.ensures) at (rw c.deref.ensures at c.in_ok-choice.ensures.choice))) _ _ _ _ reported.exit h)
    c.mask_all.ensures.exact

pub returns-in-Ok-2-clause-front : goal.returns-in-Ok-2-clause-front
returns-in-Ok-2-clause-front g c = λ failed.
    front_begun (lists c.args.options.now) c.args.dictionary.now _ c.in-Ok-2.choice (rw (← c.deref-in-Ok-2.ensures) at c.in-Ok.ensures.book)
    (IfOk-at_ok (IsChoice (lists c.args.options.now) _) c.in-Ok-2.is (rw (← c.deref-in-Ok-2.ensures) at (rw c.deref.ensures at c.in_ok-choice.ensures.choice))) _ _ _ _ (c.mask_all.ensures.front failed)

pub returns-clause-exact : goal.returns-clause-exact
returns-clause-exact g c = all_refused (lists c.args.options.now) c.args.dictionary.now (g.F.Feed.remaining c.args.feed.now) (g.S.Sink.written c.args.sink.now)
    (g.S.Sink.written c.refuse_name.new.sink) c.refuse_name.result c.refuse_name.ensures.put

pub returns-clause-pieces : goal.returns-clause-pieces
returns-clause-pieces g c = refusal_put (lists c.args.options.now) c.args.dictionary.now (g.F.Feed.remaining c.args.feed.now) (g.S.Sink.written c.args.sink.now)
    (g.S.Sink.written c.refuse_name.new.sink) c.refuse_name.result c.refuse_name.ensures.put

pub refuse_name-requires-clause-named : goal.refuse_name-requires-clause-named
refuse_name-requires-clause-named g c =
    name_refused (lists c.args.options.now) c.args.dictionary.now _ c.in_ok-choice.field-0 c.in-Err-2.bad c.in-Ok.ensures.book c.in-Err-2.is
    (rw c.deref.ensures at c.in_ok-choice.ensures.refused)
