use Rattle.std.proofs.Common.{ℕ, Option, Some, sym, subst, ◌∙◌}
use Rattle.std.specs.Global.{Vec}
use Rattle.std.specs.Option.{option_map}
use Rattle.std.proofs.lemmas.Result.{IfOk-weaker}
use Rattle.dia_peer.specs.Core.{PlainCore, plain_config}
use Rattle.dia_peer.specs.Incoming.{received_of}
use Rattle.dia_peer.specs.Replies.{IsReplyOf}
use Rattle.dia_peer.proofs.TakenBytes.{takes_answered}
use Rattle.dia_peer.proofs.connection.Core.takes_bytes.Goals as goal

pub returns-in-Some-clause-ok : goal.returns-in-Some-clause-ok
returns-in-Some-clause-ok c =
    let bytes = c.args.bytes.now in
    let what = received_of bytes c.in_ok-what.what in
    let found = subst (λ (o : Option (Vec ℕ)). IsReplyOf (plain_config c.self.inside.node.config) bytes (option_map (λ v. v.items) o)) c.in-Some.is c.in_ok-reply.ensures in
    let has = subst (λ (core : PlainCore). IsReplyOf core.config bytes (Some c.in-Some.reply.items)) c.self.view_is found in
    IfOk-weaker c.closes_after.result _ _
    (λ outputs h. takes_answered c.args.self.now c.closes_after.new.self bytes what c.in-Some.reply outputs.items (sym (c.replies.ensures bytes) ∙ c.if-not-replies.false) c.in_ok-what.ensures has h.0 h.1)
    c.closes_after.ensures.ok
