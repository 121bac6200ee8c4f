-- Without a manner a step is a line of the table.
use Rattle.std.proofs.Common.{◌≡◌, ℕ, Bool, false, cond, ◌&&◌, List, Option, Some, None, refl, sym, ap, subst, ◌∙◌}
use Rattle.std.specs.Prelude.{◌↔◌}
use Rattle.std.proofs.lemmas.Bool.{and_left, and_right}
use Rattle.dia_peer.specs.Core.{PlainCore}
use Rattle.dia_peer.specs.Table.{Happening, Starts, Gets, Ticks, Stops, Breaks, Outcome, happens}
use Rattle.dia_peer.specs.Life.{suspects, hears, lives}
use Rattle.dia_peer.specs.declared.event.Event.{Event}
use Rattle.dia_peer.specs.declared.event.Output.{Output}
use Rattle.dia_peer.specs.declared.event.Event.TheVariants as event
use Rattle.dia_peer.specs.Values.{introduces, leaves, newer}
use Rattle.dia_peer.specs.Machine.{AreOutputs, AreOutputsAfter, kept_at, IsPlain, IsRepliedAt, IsStep, IsTableStep}
use Rattle.dia_peer.specs.Messages.{Received}
use Rattle.dia_peer.specs.Replies.{is_refused, may_reply, replies}
use Rattle.dia_peer.proofs.Replies.{is_quiet, quiet_at}

pub as_table : (c : PlainCore) (h : Happening) → c.manner.life ≡ false → lives c h ≡ happens c h
as_table c Starts e = refl
as_table c (Gets what) e = ap (λ (b : Bool). cond b (hears c what (happens c (Gets what))) (happens c (Gets what))) e
as_table c Ticks e = ap (λ (b : Bool). cond b (suspects c (happens c Ticks)) (happens c Ticks)) e
as_table c (Stops cause) e = refl
as_table c Breaks e = refl

kept_none : (old : PlainCore) (e : Event) (h : Happening) (new : PlainCore) → old.manner.values ≡ false → kept_at old e h new ≡ new
kept_none old event.Start h new v = refl
kept_none old (event.Bytes bytes) Starts new v = refl
kept_none old (event.Bytes bytes) (Gets what) new v = ap (λ (b : Bool). cond b (record new { met = newer (cond (introduces old what) (Some bytes.now) None) new.met; left = newer (cond (leaves old what) (Some bytes.now) None) new.left }) new) v
kept_none old (event.Bytes bytes) Ticks new v = refl
kept_none old (event.Bytes bytes) (Stops cause) new v = refl
kept_none old (event.Bytes bytes) Breaks new v = refl
kept_none old event.Tick h new v = refl
kept_none old (event.Stop cause) h new v = refl
kept_none old event.Lost h new v = refl

quietly : (old : PlainCore) (bytes : List ℕ) (what : Received) → old.manner.answers ≡ false → replies old bytes what ≡ false
quietly old bytes what none = and_left (is_refused what && old.manner.answers) (may_reply old.state bytes) (and_right (is_refused what) old.manner.answers none)

-- without the manner nothing is answered
silent : (old : PlainCore) (e : Event) (h : Happening) (reply : Option (List ℕ)) → old.manner.answers ≡ false → IsRepliedAt old e h reply → reply ≡ None
silent old (event.Bytes bytes) (Gets what) reply none at = is_quiet old bytes.now what reply (quietly old bytes.now what none) at
silent old e h reply none at = at

stays_silent : (old : PlainCore) (e : Event) (h : Happening) → old.manner.answers ≡ false → IsRepliedAt old e h None
stays_silent old (event.Bytes bytes) (Gets what) none = quiet_at old bytes.now what None (quietly old bytes.now what none) refl
stays_silent old e h none = refl

pub as_line : (old new : PlainCore) (e : Event) (outputs : List Output) → IsPlain old.manner → IsStep old e outputs new ↔ IsTableStep old e outputs new
as_line old new e outputs plain =
    let same = λ (h : Happening). as_table old h plain.1 in
    let core = λ (h : Happening). kept_none old e h (lives old h).core plain.2 ∙ ap (λ (o : Outcome). o.core) (same h) in (
      (λ (h, is, after, (reply, at, are)). (
        h,
        is,
        after ∙ core h,
        subst (λ (o : Outcome). AreOutputs o.deeds outputs) (same h) (subst (λ (r : Option (List ℕ)). AreOutputsAfter r (lives old h).deeds outputs) (silent old e h reply plain.0 at) are),
      )),
      (λ (h, is, after, are). (h, is, after ∙ sym (core h), (None, stays_silent old e h plain.0, subst (λ (o : Outcome). AreOutputs o.deeds outputs) (sym (same h)) are))),
    )
