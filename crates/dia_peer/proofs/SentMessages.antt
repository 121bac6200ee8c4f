-- A step sends our messages and answers to invalid requests, and no others, so what it sends is valid.
use Rattle.std.proofs.Common.{ℕ, Bool, true, false, cond, List, [], ◌∷◌, Option, Some, None, inl, inr, sym, subst}
use Rattle.std.specs.Prelude.{◌==◌, ◌&&◌, not, ⊤, IsTrue}
use Rattle.std.specs.List.{AllByRecursion}
use Rattle.std.proofs.lemmas.Option.{none-some}
use Rattle.std.proofs.lemmas.List.Elements.{All-from_recursion}
use Rattle.dia_dict.specs.Base.{base}
use Rattle.dia_check.specs.declared.Unknown.TheVariants.{Kept}
use Rattle.dia_check.specs.declared.Levels.TheVariants.{Any}
use Rattle.dia_valid.specs.Valid.{IsValid}
use Rattle.dia_answer.specs.Dictionaries.{opaque}
use Rattle.dia_peer.specs.declared.event.Event.{Event}
use Rattle.dia_peer.specs.declared.event.Event.TheVariants as event
use Rattle.dia_peer.specs.declared.event.Output.{Output}
use Rattle.dia_peer.specs.declared.event.Output.TheVariants as output
use Rattle.dia_peer.specs.declared.config.Role.{Role}
use Rattle.dia_peer.specs.declared.config.Role.TheVariants.{Initiator, Responder}
use Rattle.dia_peer.specs.declared.event.State.{State}
use Rattle.dia_peer.specs.declared.event.State.TheVariants.{Idle, WaitCea, WaitCer, Open, WaitDpa}
use Rattle.dia_peer.specs.declared.event.Why.{Why}
use Rattle.dia_peer.specs.declared.event.Why.TheVariants as why
use Rattle.dia_peer.specs.declared.kept_requests.Ids.{Ids}
use Rattle.dia_peer.specs.Core.{PlainConfig, PlainCore, PlainTaken, Pair, IsConfig, common_of}
use Rattle.dia_peer.specs.Messages.{Cer, Dwr, Dpr, Cea, Refusal, Dwa, Dpa, cea, dwr, after, IsOurs, is_cer, is_cea, is_dwr, is_dwa, is_dpr, is_dpa}
use Rattle.dia_peer.specs.Machine.{AreOutputs, AreOutputsAfter, AreSound, IsRepliedAt, IsSound, IsSoundReply, IsStep}
use Rattle.dia_peer.specs.Table.{Happening, Starts, Gets, Ticks, Stops, Breaks, Deed, Sends, Closes, Outcome, nothing, closes, same_bytes, same_ids, starts, opens, answered, accepts, repeated, only_responder, ticks_open, happens_in, happens}
use Rattle.dia_peer.specs.Life.{is_open, suspects, hears, lives}
use Rattle.dia_peer.proofs.OurMessages.{ours_are_valid}
use Rattle.dia_peer.proofs.Replies.{is_reply, lives_refused, reply_is_valid, with_answers}

-- each message that is sent is one of the configuration's
abbrev AreOurs : PlainConfig → List Deed → Type 0
AreOurs c [] = ⊤
AreOurs c (Sends m ∷ deeds) = IsOurs c m × AreOurs c deeds
AreOurs c (Closes reason ∷ deeds) = AreOurs c deeds

abbrev SendsOurs : PlainCore → Outcome → Type 0
SendsOurs c o = AreOurs c.config o.deeds

-- whichever of two outcomes it is
either : (c : PlainCore) (b : Bool) (x y : Outcome) → SendsOurs c x → SendsOurs c y → SendsOurs c (cond b x y)
either c true x y h k = h
either c false x y h k = k

by_opens : (c : PlainCore) (found : Option (List Pair)) → SendsOurs c (opens c found)
by_opens c None = tt
by_opens c (Some []) = tt
by_opens c (Some (p ∷ ps)) = tt

by_answered : (c : PlainCore) (result : ℕ) (apps : List Pair) → SendsOurs c (answered c result apps)
by_answered c result apps =
    either c (result == 2001) (opens c (common_of c.manner c.config apps)) (cond (result == 5010) (closes c [] why.NoCommon) (closes c [] why.Refused)) (by_opens c (common_of c.manner c.config apps))
    (either c (result == 5010) (closes c [] why.NoCommon) (closes c [] why.Refused) tt tt)

by_accepts : (c : PlainCore) (ids : Ids) (bytes : List ℕ) (found : Option (List Pair)) → SendsOurs c (accepts c ids bytes found)
by_accepts c ids bytes None = tt
by_accepts c ids bytes (Some []) = (is_cea ids 5010, tt)
by_accepts c ids bytes (Some (p ∷ ps)) = (is_cea ids 2001, tt)

by_repeated : (c : PlainCore) (bytes : List ℕ) (taken : Option PlainTaken) → SendsOurs c (repeated c bytes taken)
by_repeated c bytes None = tt
by_repeated c bytes (Some taken) =
    either c (same_bytes bytes taken.bytes) (record { core = c; deeds = Sends (cea c.config taken.ids 2001) ∷ [] }) (nothing c) (is_cea taken.ids 2001, tt) tt

by_role : (c : PlainCore) (role : Role) (o : Outcome) → SendsOurs c o → SendsOurs c (only_responder role o (nothing c))
by_role c Initiator o h = tt
by_role c Responder o h = h

by_ticks : (c : PlainCore) → SendsOurs c (ticks_open c)
by_ticks c =
    either c c.waits (closes c [] why.Watchdog) (record { core = record c { next = after c.next; last_dwr = Some c.next; waits = true }; deeds = Sends (dwr c.config c.next) ∷ [] })
    tt (is_dwr c.next, tt)

by_start : (c : PlainCore) (role : Role) → SendsOurs c (starts c role)
by_start c Initiator = (is_cer c.next, tt)
by_start c Responder = tt

in_state : (s : State) (c : PlainCore) (h : Happening) → SendsOurs c (happens_in s c h)
in_state Idle c Starts = by_start c c.role
in_state WaitCea c (Gets (Cea ids result apps)) = either c (same_ids ids c.last_cer) (answered c result apps) (nothing c) (by_answered c result apps) tt
in_state WaitCea c (Gets (Refusal ids)) = either c (same_ids ids c.last_cer) (closes c [] why.Refused) (nothing c) tt tt
in_state WaitCer c (Gets (Cer ids bytes apps)) = by_accepts c ids bytes (common_of c.manner c.config apps)
in_state Open c (Gets (Cer ids bytes apps)) = by_role c c.role (repeated c bytes c.taken) (by_repeated c bytes c.taken)
in_state Open c (Gets (Dwr ids)) = (is_dwa ids, tt)
in_state Open c (Gets (Dwa ids)) = either c (same_ids ids c.last_dwr) (record { core = record c { waits = false }; deeds = [] }) (nothing c) tt tt
in_state Open c (Gets (Dpr ids)) = (is_dpa ids, tt)
in_state Open c Ticks = by_ticks c
in_state Open c (Stops cause) = (is_dpr c.next cause, tt)
in_state WaitDpa c (Gets (Dwr ids)) = (is_dwa ids, tt)
in_state WaitDpa c (Gets (Dpr ids)) = (is_dpa ids, tt)
in_state WaitDpa c (Gets (Dpa ids)) = either c (same_ids ids c.last_dpr) (closes c [] why.Stopped) (nothing c) tt tt
in_state state c h = tt

by_manner : (c : PlainCore) (h : Happening) → SendsOurs c (lives c h)
by_manner c Starts = in_state c.state c Starts
by_manner c (Gets what) = let o = happens c (Gets what) in let ours = in_state c.state c (Gets what) in either c c.manner.life (hears c what o) o ours ours
by_manner c Ticks =
    let o = happens c Ticks in let ours = in_state c.state c Ticks in
    either c c.manner.life (suspects c o) o (either c (is_open c.state && c.waits && not c.suspect) (record { core = record c { suspect = true }; deeds = [] }) o tt ours) ours
by_manner c (Stops cause) = in_state c.state c (Stops cause)
by_manner c Breaks = in_state c.state c Breaks

sound : (c : PlainConfig) → IsConfig c → (deeds : List Deed) (outputs : List Output) → AreOurs c deeds → AreOutputs deeds outputs → AllByRecursion IsSound outputs
sound c ok [] [] ours are = tt
sound c ok (Sends m ∷ deeds) (output.Send bytes ∷ outputs) (one, ours) (is, are) = (ours_are_valid c m _ ok one is.message, sound c ok deeds outputs ours are)
sound c ok (Closes reason ∷ deeds) (output.Close same ∷ outputs) ours (is, are) = (tt, sound c ok deeds outputs ours are)
sound c ok (Sends m ∷ deeds) (output.Close same ∷ outputs) ours (is, are) = absurd is
sound c ok (Closes reason ∷ deeds) (output.Send bytes ∷ outputs) ours (is, are) = absurd is
sound c ok [] (o ∷ outputs) ours are = absurd are
sound c ok (d ∷ deeds) [] ours are = absurd are

sound_reply : (reply : List ℕ) (outputs : List Output) → IsValid (opaque base) Kept Any reply → AreOutputsAfter (Some reply) (Closes why.Invalid ∷ []) outputs → IsSoundReply outputs
sound_reply reply [] valid are = absurd are
sound_reply reply (output.Close same ∷ outputs) valid are = absurd are
sound_reply reply (output.Send bytes ∷ []) valid (is, are) = absurd are
sound_reply reply (output.Send bytes ∷ output.Send more ∷ outputs) valid (is, are) = absurd are.0
sound_reply reply (output.Send bytes ∷ output.Close same ∷ o ∷ outputs) valid (is, are) = absurd are.1
sound_reply reply (output.Send bytes ∷ output.Close same ∷ []) valid (is, are) =
    subst (λ (w : Why). IsSoundReply (output.Send bytes ∷ output.Close w ∷ [])) are.0 (subst (IsValid (opaque base) Kept Any) (sym is) valid)

sound_after : (old : PlainCore) (e : Event) (h : Happening) (reply : List ℕ) (outputs : List Output) → IsRepliedAt old e h (Some reply) → AreOutputsAfter (Some reply) (lives old h).deeds outputs
    → IsTrue old.manner.answers × IsSoundReply outputs
sound_after old (event.Bytes bytes) (Gets what) reply outputs at are =
    let (is, has) = is_reply old bytes.now what reply at in (
      (with_answers old bytes.now what is).1,
      sound_reply reply outputs (reply_is_valid old.config bytes.now reply has) (subst (λ (o : Outcome). AreOutputsAfter (Some reply) o.deeds outputs) (lives_refused old bytes.now what is) are),
    )
sound_after old e h reply outputs at are = absurd (none-some reply (sym at))

pub step_is_sound : (old : PlainCore) (e : Event) (outputs : List Output) (new : PlainCore) → IsConfig old.config → IsStep old e outputs new → AreSound old.manner outputs
step_is_sound old e outputs new ok (h, happening, same, (None, at, are)) = inl (All-from_recursion IsSound outputs (sound old.config ok (lives old h).deeds outputs (by_manner old h) are))
step_is_sound old e outputs new ok (h, happening, same, (Some reply, at, are)) = inr (sound_after old e h reply outputs at are)
