use Rattle.std.proofs.Common.{ap, refl, cond, ◌++◌, ◌∙◌}
use Rattle.std.proofs.lemmas.Result.{on_ok_weaker}
use Rattle.dia_upgrades.proofs.Puts.{both_out, front_after, front_of_more, held, same_put}
use Rattle.dia_upgrades.proofs.pending.Pending.add.Goals as goal

pub returns-then-holds-clause-added : goal.returns-then-holds-clause-added
returns-then-holds-clause-added g c = λ begun before is.
    let added = c.holds.ensures ∙ ap (λ b. cond b (c.args.self.now.bytes.items ++ c.args.text.now) c.args.self.now.bytes.items) c.if-holds.true in
    held begun (g.S.Sink.written c.args.sink.now) c.args.self.now c.holds.new.self before c.args.text.now added is

pub returns-in_err-put-clause-front : goal.returns-in_err-put-clause-front
returns-in_err-put-clause-front g c = λ _ begun before is.
    let same = c.holds.ensures ∙ ap (λ b. cond b (c.args.self.now.bytes.items ++ c.args.text.now) c.args.self.now.bytes.items) c.if-holds.false in
    front_of_more begun _ before c.args.text.now (c.in_err-put.ensures.front refl begun before (same_put begun (g.S.Sink.written c.args.sink.now) c.args.self.now c.holds.new.self before same is))

pub returns-clause-added : goal.returns-clause-added
returns-clause-added g c =
    on_ok_weaker c.put_all.result
    (λ appended begun before is.
    let same = c.holds.ensures ∙ ap (λ b. cond b (c.args.self.now.bytes.items ++ c.args.text.now) c.args.self.now.bytes.items) c.if-holds.false in
    let first = c.in_ok-put.ensures.put begun before (same_put begun (g.S.Sink.written c.args.sink.now) c.args.self.now c.holds.new.self before same is) in
    both_out begun _ _ c.put.new.self before c.args.text.now c.in_ok-put.ensures.nothing first appended)
    c.put_all.ensures.ok

pub returns-clause-front : goal.returns-clause-front
returns-clause-front g c = λ _ begun before is.
    let same = c.holds.ensures ∙ ap (λ b. cond b (c.args.self.now.bytes.items ++ c.args.text.now) c.args.self.now.bytes.items) c.if-holds.false in
    let first = c.in_ok-put.ensures.put begun before (same_put begun (g.S.Sink.written c.args.sink.now) c.args.self.now c.holds.new.self before same is) in
    front_after begun _ _ before c.args.text.now first c.put_all.ensures.front
