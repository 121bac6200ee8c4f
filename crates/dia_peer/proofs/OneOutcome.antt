-- A step has one outcome.
use Rattle.std.proofs.Common.{◌≡◌, ℕ, Bool, ◌&&◌, List, [], ◌∷◌, map, Option, Some, None, ⊎_elim, sym, ap, subst, ◌∙◌}
use Rattle.std.specs.Prelude.{All}
use Rattle.std.specs.List.{AllByRecursion}
use Rattle.std.proofs.lemmas.List.Elements.{recursion_from_All}
use Rattle.std.proofs.lemmas.Bool.{cases_Bool}
use Rattle.dia_peer.specs.declared.event.Event.{Event}
use Rattle.dia_peer.specs.declared.event.Event.TheVariants as event
use Rattle.dia_peer.specs.declared.event.Output.{Output}
use Rattle.dia_peer.specs.declared.event.Output.TheVariants as output
use Rattle.dia_peer.specs.Core.{PlainCore}
use Rattle.dia_peer.specs.Table.{Deed, Happening, Outcome}
use Rattle.dia_peer.specs.Machine.{IsHappening, AreOutputsAfter, IsRepliedAt, IsStep}
use Rattle.dia_peer.specs.Outputs.{SentBytes, plain_output, SendsBytes}
use Rattle.dia_peer.specs.Replies.{may_reply, replies}
use Rattle.dia_peer.proofs.OneStep.{stepped, happening_same, outputs_same}
use Rattle.dia_peer.proofs.Replies.{is_answered, is_quiet, one_reply}
use Rattle.dia_peer.proofs.InvalidRequests.{refused_same}

-- what is answered at an event, however it is read
same_reply : (old : PlainCore) (e : Event) (h k : Happening) → IsHappening e h → IsHappening e k → (reply found : Option (List ℕ)) → IsRepliedAt old e h reply → IsRepliedAt old e k found → reply ≡ found
same_reply old (event.Bytes bytes) h k (what, is, first) (again, also, second) reply found at there =
    let here = subst (λ (g : Happening). IsRepliedAt old (event.Bytes bytes) g reply) first at in
    let yonder = subst (λ (g : Happening). IsRepliedAt old (event.Bytes bytes) g found) second there in
    let turned : replies old bytes.now what ≡ replies old bytes.now again = ap (λ (t : Bool). t && old.manner.answers && may_reply old.state bytes.now) (refused_same bytes.now what again is also) in
    ⊎_elim
    (λ t. one_reply old.config bytes.now reply found (is_answered old bytes.now what reply t here) (is_answered old bytes.now again found (sym turned ∙ t) yonder))
    (λ f. is_quiet old bytes.now what reply f here ∙ sym (is_quiet old bytes.now again found (sym turned ∙ f) yonder))
    (cases_Bool (replies old bytes.now what))
same_reply old e h k is also reply found at there = at ∙ sym there

-- what goes out after one answer, or none
outputs_after : (reply : Option (List ℕ)) (deeds : List Deed) (a b : List Output) → AreOutputsAfter reply deeds a → AreOutputsAfter reply deeds b → AllByRecursion SendsBytes a → AllByRecursion SendsBytes b
    → map plain_output a ≡ map plain_output b
outputs_after None deeds a b are more x y = outputs_same deeds a b are more x y
outputs_after (Some reply) deeds (output.Send s ∷ a) (output.Send t ∷ b) (is, are) (also, more) (x, xs) (y, ys) =
    let later = outputs_same deeds a b are more xs ys in
    λ i. SentBytes ((is ∙ sym also) i) ∷ later i
outputs_after (Some reply) deeds [] b are more x y = absurd are
outputs_after (Some reply) deeds (output.Close why ∷ a) b are more x y = absurd are
outputs_after (Some reply) deeds (output.Send s ∷ a) [] are more x y = absurd more
outputs_after (Some reply) deeds (output.Send s ∷ a) (output.Close why ∷ b) are more x y = absurd more

pub same_outcome : (old new other : PlainCore) (e : Event) (a b : List Output) → IsStep old e a new → IsStep old e b other → All SendsBytes a → All SendsBytes b
    → (new ≡ other) × (map plain_output a ≡ map plain_output b)
same_outcome old new other e a b (h, is, x, (reply, at, are)) (k, also, y, (found, there, more)) u v =
    let same : stepped old e h ≡ stepped old e k = happening_same old e h k is also in
    let one : reply ≡ found = same_reply old e h k is also reply found at there in
    let here : AreOutputsAfter found (stepped old e k).deeds a =
    subst (λ (r : Option (List ℕ)). AreOutputsAfter r (stepped old e k).deeds a) one (subst (λ (o : Outcome). AreOutputsAfter reply o.deeds a) same are) in (
      x ∙ ap (λ (o : Outcome). o.core) same ∙ sym y,
      outputs_after found (stepped old e k).deeds a b here more (recursion_from_All SendsBytes a u) (recursion_from_All SendsBytes b v),
    )
