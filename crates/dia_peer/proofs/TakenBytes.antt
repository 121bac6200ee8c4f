-- What the code does with bytes is what the table and the manner say.
use Rattle.std.proofs.Common.{◌≡◌, ℕ, true, false, List, [], ◌∷◌, Some, None, refl, sym, ap, subst, ◌∙◌}
use Rattle.std.specs.Global.{Vec}
use Rattle.dia_peer.specs.declared.event.Output.{Output}
use Rattle.dia_peer.specs.declared.event.Output.TheVariants as output
use Rattle.dia_peer.specs.declared.event.Why.TheVariants as why
use Rattle.dia_peer.specs.Core.{PlainCore}
use Rattle.dia_peer.specs.Messages.{Received, IsReceived}
use Rattle.dia_peer.specs.Table.{Gets, Closes, Outcome, closed}
use Rattle.dia_peer.specs.Life.{lives, noticed}
use Rattle.dia_peer.specs.Values.{keeps}
use Rattle.dia_peer.specs.Machine.{AreOutputs, AreOutputsAfter, TakesBytes}
use Rattle.dia_peer.specs.Replies.{IsReplyOf, replies}
use Rattle.dia_peer.proofs.Replies.{answered_at, keeps_refused, lives_refused, quiet_at, with_answers}

abbrev pub KeepsAll : PlainCore → List ℕ → Received → List Output → PlainCore → Type 0
KeepsAll old bytes what outputs new = (new ≡ keeps old bytes what (lives old (Gets what)).core) × AreOutputs (lives old (Gets what)).deeds outputs

-- nothing is answered here
pub takes_quietly : (old new : PlainCore) (bytes : List ℕ) (what : Received) (outputs : List Output) → replies old bytes what ≡ false → IsReceived bytes what → KeepsAll old bytes what outputs new → TakesBytes old bytes outputs new
takes_quietly old new bytes what outputs is received done = (what, received, done.0, (None, quiet_at old bytes what None is refl, done.1))

-- there is no answer
pub takes_unanswered : (old new : PlainCore) (bytes : List ℕ) (what : Received) (outputs : List Output) → replies old bytes what ≡ true → IsReceived bytes what → IsReplyOf old.config bytes None
    → KeepsAll old bytes what outputs new → TakesBytes old bytes outputs new
takes_unanswered old new bytes what outputs is received none done = (what, received, done.0, (None, answered_at old bytes what None is none, done.1))

pub takes_answered : (old new : PlainCore) (bytes : List ℕ) (what : Received) (reply : Vec ℕ) (outputs : List Output) → replies old bytes what ≡ true → IsReceived bytes what → IsReplyOf old.config bytes (Some reply.items)
    → new ≡ closed (noticed old) → outputs ≡ output.Send reply ∷ output.Close why.Invalid ∷ [] → TakesBytes old bytes outputs new
takes_answered old new bytes what reply outputs is received has after outs =
    let does = lives_refused old bytes what is in
    let kept : keeps old bytes what (lives old (Gets what)).core ≡ closed (noticed old) = keeps_refused old bytes what (lives old (Gets what)).core (with_answers old bytes what is).0 ∙ ap (λ (o : Outcome). o.core) does in (
      what,
      received,
      after ∙ sym kept,
      (
        Some reply.items,
        answered_at old bytes what (Some reply.items) is has,
        subst (λ (o : Outcome). AreOutputsAfter (Some reply.items) o.deeds outputs) (sym does) (subst (AreOutputsAfter (Some reply.items) (Closes why.Invalid ∷ [])) (sym outs) (refl, (refl, tt))),
      ),
    )
