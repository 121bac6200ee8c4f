-- What goes out in front of `Close(Invalid)`.
use Rattle.std.proofs.Common.{◌≡◌, ℕ, Bool, true, false, cond, ◌&&◌, List, [], ◌∷◌, length, map, take, drop, Option, Some, None, ◌⊎◌, inl, inr, ⊎_elim, refl, sym, ap, subst, ◌∙◌}
use Rattle.std.specs.Prelude.{◌==◌, ◌||◌, not, IsTrue}
use Rattle.std.specs.List.{list_any}
use Rattle.std.proofs.lemmas.Option.{none-some}
use Rattle.dia_wire.specs.Number.{number}
use Rattle.dia_dict.specs.Base.{base}
use Rattle.dia_check.specs.declared.Unknown.TheVariants.{Kept}
use Rattle.dia_check.specs.declared.Levels.TheVariants.{Any}
use Rattle.dia_valid.specs.Valid.{IsValid}
use Rattle.dia_check.specs.Faults.{HasLength}
use Rattle.dia_peer.specs.declared.config.Role.{Role}
use Rattle.dia_peer.specs.declared.config.Role.TheVariants.{Initiator, Responder}
use Rattle.dia_peer.specs.declared.event.State.{State}
use Rattle.dia_peer.specs.declared.event.State.TheVariants.{Idle, WaitCea, WaitCer, Open, WaitDpa}
use Rattle.dia_peer.specs.declared.event.Event.{Event}
use Rattle.dia_peer.specs.declared.event.Event.TheVariants as event
use Rattle.dia_peer.specs.declared.event.Output.{Output}
use Rattle.dia_peer.specs.declared.event.Output.TheVariants as output
use Rattle.dia_peer.specs.declared.event.Why.{Why}
use Rattle.dia_peer.specs.declared.event.Why.TheVariants as why
use Rattle.dia_peer.specs.declared.kept_requests.Ids.{Ids}
use Rattle.dia_peer.specs.Core.{PlainCore, PlainTaken, Pair, common_of}
use Rattle.dia_peer.specs.Messages.{Received, Unreadable, Invalid, Cer, Cea, Refusal, Dwa, Dpa, IsOurCode, IsReceived, cea, dwr, after}
use Rattle.dia_peer.specs.Table.{Happening, Starts, Gets, Ticks, Stops, Breaks, Deed, Sends, Closes, Outcome, nothing, closes, same_bytes, same_ids, starts, opens, answered, accepts, repeated, only_responder, ticks_open, happens_in, happens}
use Rattle.dia_peer.specs.Life.{is_open, suspects, hears, lives}
use Rattle.dia_peer.specs.Machine.{AreOutputs, AreOutputsAfter, IsRepliedAt, IsStep, AnswersAt, AnswersOnly, AreAnswered, AreAnsweredAt, AreUnanswered, only_closes}
use Rattle.dia_peer.specs.Outputs.{PlainOutput, SentBytes, ClosedFor, plain_output}
use Rattle.dia_peer.specs.Replies.{IsReplied, IsReplyOf, is_refused, may_reply, replies}
use Rattle.dia_peer.proofs.Sets.{IsIn, to_in}
use Rattle.dia_peer.proofs.ResultCode.{never}
use Rattle.dia_peer.proofs.Replies.{is_answered, is_reply, lives_refused, refused_cases, reply_to_request, with_answers}
use Rattle.dia_peer.proofs.OneStep.{Status, reading_long, status, unreadable, foreign, invalid, is_good}

-- ---- where the table closes for what came, it does nothing else

abbrev pub for_invalid : Why → Bool
for_invalid why.Invalid = true
for_invalid reason = false

abbrev closes_invalid : Deed → Bool
closes_invalid (Closes reason) = for_invalid reason
closes_invalid deed = false

abbrev Alone : Outcome → Type 0
Alone o = list_any closes_invalid o.deeds ≡ true → o.deeds ≡ Closes why.Invalid ∷ []

either : (b : Bool) (x y : Outcome) → Alone x → Alone y → Alone (cond b x y)
either true x y f g = f
either false x y f g = g

by_opens : (c : PlainCore) (found : Option (List Pair)) → Alone (opens c found)
by_opens c None t = refl
by_opens c (Some []) t = never t
by_opens c (Some (p ∷ ps)) t = never t

by_answered : (c : PlainCore) (result : ℕ) (apps : List Pair) → Alone (answered c result apps)
by_answered c result apps =
    either (result == 2001) (opens c (common_of c.manner c.config apps)) (cond (result == 5010) (closes c [] why.NoCommon) (closes c [] why.Refused)) (by_opens c (common_of c.manner c.config apps))
    (either (result == 5010) (closes c [] why.NoCommon) (closes c [] why.Refused) (λ t. never t) (λ t. never t))

by_accepts : (c : PlainCore) (ids : Ids) (bytes : List ℕ) (found : Option (List Pair)) → Alone (accepts c ids bytes found)
by_accepts c ids bytes None t = refl
by_accepts c ids bytes (Some []) t = never t
by_accepts c ids bytes (Some (p ∷ ps)) t = never t

by_repeated : (c : PlainCore) (bytes : List ℕ) (taken : Option PlainTaken) → Alone (repeated c bytes taken)
by_repeated c bytes None t = never t
by_repeated c bytes (Some taken) t =
    either (same_bytes bytes taken.bytes) (record { core = c; deeds = Sends (cea c.config taken.ids 2001) ∷ [] }) (nothing c) (λ u. never u) (λ u. never u) t

by_role : (c : PlainCore) (role : Role) (o : Outcome) → Alone o → Alone (only_responder role o (nothing c))
by_role c Initiator o f t = never t
by_role c Responder o f t = f t

by_start : (c : PlainCore) (role : Role) → Alone (starts c role)
by_start c Initiator t = never t
by_start c Responder t = never t

by_ticks : (c : PlainCore) → Alone (ticks_open c)
by_ticks c = either c.waits (closes c [] why.Watchdog) (record { core = record c { next = after c.next; last_dwr = Some c.next; waits = true }; deeds = Sends (dwr c.config c.next) ∷ [] }) (λ t. never t) (λ t. never t)

in_state : (s : State) (c : PlainCore) (h : Happening) → Alone (happens_in s c h)
in_state Idle c Starts t = by_start c c.role t
in_state WaitCea c (Gets Unreadable) t = refl
in_state WaitCea c (Gets Invalid) t = refl
in_state WaitCea c (Gets (Cea ids result apps)) t = either (same_ids ids c.last_cer) (answered c result apps) (nothing c) (by_answered c result apps) (λ u. never u) t
in_state WaitCea c (Gets (Refusal ids)) t = either (same_ids ids c.last_cer) (closes c [] why.Refused) (nothing c) (λ u. never u) (λ u. never u) t
in_state WaitCer c (Gets Unreadable) t = refl
in_state WaitCer c (Gets Invalid) t = refl
in_state WaitCer c (Gets (Cer ids bytes apps)) t = by_accepts c ids bytes (common_of c.manner c.config apps) t
in_state Open c (Gets Unreadable) t = refl
in_state Open c (Gets Invalid) t = refl
in_state Open c (Gets (Cer ids bytes apps)) t = by_role c c.role (repeated c bytes c.taken) (by_repeated c bytes c.taken) t
in_state Open c (Gets (Dwa ids)) t = either (same_ids ids c.last_dwr) (record { core = record c { waits = false }; deeds = [] }) (nothing c) (λ u. never u) (λ u. never u) t
in_state Open c Ticks t = by_ticks c t
in_state WaitDpa c (Gets Unreadable) t = refl
in_state WaitDpa c (Gets Invalid) t = refl
in_state WaitDpa c (Gets (Dpa ids)) t = either (same_ids ids c.last_dpr) (closes c [] why.Stopped) (nothing c) (λ u. never u) (λ u. never u) t
in_state state c h t = never t

alone : (c : PlainCore) (h : Happening) → Alone (lives c h)
alone c Starts = in_state c.state c Starts
alone c (Gets what) = let o = happens c (Gets what) in let f = in_state c.state c (Gets what) in either c.manner.life (hears c what o) o f f
alone c Ticks =
    let o = happens c Ticks in let f = in_state c.state c Ticks in
    either c.manner.life (suspects c o) o (either (is_open c.state && c.waits && not c.suspect) (record { core = record c { suspect = true }; deeds = [] }) o (λ t. never t) f) f
alone c (Stops cause) = in_state c.state c (Stops cause)
alone c Breaks = in_state c.state c Breaks

-- ---- outputs

abbrev says_invalid : PlainOutput → Bool
says_invalid (ClosedFor reason) = for_invalid reason
says_invalid o = false

is_there : (outputs : List PlainOutput) → IsIn outputs (ClosedFor why.Invalid) → list_any says_invalid outputs ≡ true
is_there [] m = absurd m
is_there (o ∷ outputs) (inl e) = ap (λ (x : PlainOutput). says_invalid x || list_any says_invalid outputs) e
is_there (o ∷ outputs) (inr m) = by (says_invalid o) (is_there outputs m)
  where
    by : (b : Bool) → list_any says_invalid outputs ≡ true → (b || list_any says_invalid outputs) ≡ true
    by true e = refl
    by false e = e

same_closing : (deeds : List Deed) (outputs : List Output) → AreOutputs deeds outputs → list_any closes_invalid deeds ≡ list_any says_invalid (map plain_output outputs)
same_closing [] [] are = refl
same_closing [] (o ∷ outputs) are = absurd are
same_closing (d ∷ deeds) [] are = absurd are
same_closing (Sends m ∷ deeds) (output.Send bytes ∷ outputs) (is, are) = same_closing deeds outputs are
same_closing (Sends m ∷ deeds) (output.Close reason ∷ outputs) (is, are) = absurd is
same_closing (Closes because ∷ deeds) (output.Send bytes ∷ outputs) (is, are) = absurd is
same_closing (Closes because ∷ deeds) (output.Close reason ∷ outputs) (is, are) = λ i. for_invalid (is i) || same_closing deeds outputs are i

-- the close alone
closing : (outputs : List Output) → AreOutputs (Closes why.Invalid ∷ []) outputs → map plain_output outputs ≡ only_closes
closing [] are = absurd are
closing (output.Send bytes ∷ outputs) (is, are) = absurd is
closing (output.Close reason ∷ []) (is, are) = ap (λ (r : Why). ClosedFor r ∷ []) (sym is)
closing (output.Close reason ∷ o ∷ outputs) (is, are) = absurd are

closing_after : (reply : List ℕ) (outputs : List Output) → AreOutputsAfter (Some reply) (Closes why.Invalid ∷ []) outputs → map plain_output outputs ≡ SentBytes reply ∷ only_closes
closing_after reply [] are = absurd are
closing_after reply (output.Close reason ∷ outputs) are = absurd are
closing_after reply (output.Send bytes ∷ outputs) (is, are) = λ i. SentBytes (is i) ∷ closing outputs are i

-- ---- a reply

-- an end replies only where it closes for what came
pub replied_step : (c : PlainCore) (bytes : List ℕ) (what : Received) (reply : Option (List ℕ)) (outputs : List Output) → replies c bytes what ≡ true → IsReplied c bytes what reply
    → AreOutputsAfter reply (lives c (Gets what)).deeds outputs → AreAnswered c.config bytes outputs ⊎ AreUnanswered c.config bytes outputs
replied_step c bytes what reply outputs is at are = by reply (is_answered c bytes what reply is at) (subst (λ (o : Outcome). AreOutputsAfter reply o.deeds outputs) (lives_refused c bytes what is) are)
  where
    by : (found : Option (List ℕ)) → IsReplyOf c.config bytes found → AreOutputsAfter found (Closes why.Invalid ∷ []) outputs → AreAnswered c.config bytes outputs ⊎ AreUnanswered c.config bytes outputs
    by None none outs = inr (none, closing outputs outs)
    by (Some found) has outs = inl (reply_to_request c.config bytes found has, (found, has, closing_after found outputs outs))

only_at : (old : PlainCore) (e : Event) (h : Happening) (reply : List ℕ) (outputs : List Output) → IsRepliedAt old e h (Some reply) → AreOutputsAfter (Some reply) (lives old h).deeds outputs
    → IsTrue old.manner.answers × AreAnsweredAt old.config e outputs
only_at old (event.Bytes bytes) (Gets what) reply outputs at are =
    let (is, has) = is_reply old bytes.now what reply at in (
      (with_answers old bytes.now what is).1,
      (reply_to_request old.config bytes.now reply has, (reply, has, closing_after reply outputs (subst (λ (o : Outcome). AreOutputsAfter (Some reply) o.deeds outputs) (lives_refused old bytes.now what is) are))),
    )
only_at old e h reply outputs at are = absurd (none-some reply (sym at))

answers_only : (old new : PlainCore) (e : Event) (outputs : List Output) → IsStep old e outputs new → AnswersOnly old e outputs
answers_only old new e outputs (h, is, next, (None, at, are)) there =
    let any = same_closing (lives old h).deeds outputs are ∙ is_there (map plain_output outputs) (to_in (map plain_output outputs) (ClosedFor why.Invalid) there) in
    inl (closing outputs (subst (λ (d : List Deed). AreOutputs d outputs) (alone old h any) are))
answers_only old new e outputs (h, is, next, (Some reply, at, are)) there = inr (only_at old e h reply outputs at are)

-- ---- what is refused is refused however it is read

pub refused_by : (b : List ℕ) (what : Received) → Status b what → (¬ HasLength b (length b)) ⊎ (IsOurCode (number (take 3 (drop 5 b))) × ¬ IsValid base Kept Any b) → is_refused what ≡ true
refused_by b what (unreadable x u) bad = ap is_refused x
refused_by b what (invalid x long ours u) bad = ap is_refused x
refused_by b what (foreign x long u) bad = ⊎_elim (λ n. absurd (n long)) (λ m. absurd (u m.0)) bad
refused_by b what (is_good r) bad = ⊎_elim (λ n. absurd (n (reading_long b what r))) (λ m. absurd (m.1 r.good.valid)) bad

bad_by : (b : List ℕ) (what : Received) → IsReceived b what → is_refused what ≡ true → (¬ HasLength b (length b)) ⊎ (IsOurCode (number (take 3 (drop 5 b))) × ¬ IsValid base Kept Any b)
bad_by b what received refused =
    ⊎_elim (λ e. inl (subst (IsReceived b) e received)) (λ e. (let x = subst (IsReceived b) e received in inr (x.1, x.2))) (refused_cases what refused)

pub refused_same : (b : List ℕ) (what again : Received) → IsReceived b what → IsReceived b again → is_refused what ≡ is_refused again
refused_same b what again is also = both_true (is_refused what) (is_refused again) (λ t. refused_by b again (status b again also) (bad_by b what is t)) (λ t. refused_by b what (status b what is) (bad_by b again also t))
  where
    both_true : (x y : Bool) → (x ≡ true → y ≡ true) → (y ≡ true → x ≡ true) → x ≡ y
    both_true true true f g = refl
    both_true true false f g = sym (f refl)
    both_true false true f g = g refl
    both_true false false f g = refl

answers_at : (old new : PlainCore) (e : Event) (outputs : List Output) → IsStep old e outputs new → AnswersAt old e outputs
answers_at old new (event.Bytes bytes) outputs (h, (what, is, same), next, (reply, at, are)) =
    λ again also replied. (
    let by = refused_same bytes.now again what also is in
    let here : replies old bytes.now what ≡ true = ap (λ (b : Bool). b && old.manner.answers && may_reply old.state bytes.now) (sym by) ∙ replied in
    replied_step old bytes.now what reply outputs here (subst (λ (k : Happening). IsRepliedAt old (event.Bytes bytes) k reply) same at)
    (subst (λ (k : Happening). AreOutputsAfter reply (lives old k).deeds outputs) same are)
    )
answers_at old new e outputs step = tt

pub answered_steps : (old new : PlainCore) (e : Event) (outputs : List Output) → IsStep old e outputs new → AnswersOnly old e outputs × AnswersAt old e outputs
answered_steps old new e outputs step = (answers_only old new e outputs step, answers_at old new e outputs step)
