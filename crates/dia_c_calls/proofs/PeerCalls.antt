-- What a call does to the end of a connection passes to the handle that holds it.
use Rattle.std.proofs.Common.{◌≡◌, ℕ, ◌+◌, ◌<◌, List, ◌∷◌, length, get_or, map, drop, Option, Some, refl, sym, ap, subst, ◌∙◌}
use Rattle.std.specs.Prelude.{slice_get, IfSome}
use Rattle.std.specs.Global.{Global}
use Rattle.std_alloc.specs.declared.boxed.Box.{Box}
use Rattle.std_alloc.specs.Box.{with_value}
use Rattle.std.proofs.lemmas.Option.{slice_get-get_or}
use Rattle.dia_peer.specs.declared.event.Output.{Output}
use Rattle.dia_peer.specs.Outputs.{PlainOutput, SentBytes, plain_output}
use Rattle.dia_c_calls.specs.declared.held.Held.{Held}
use Rattle.dia_c_calls.specs.declared.held.Held.TheVariants as holds
use Rattle.dia_c_calls.specs.declared.peer.Peer.{Peer}
use Rattle.dia_c_calls.specs.declared.peer.Given.{Given}
use Rattle.dia_c_calls.specs.declared.peer.Given.TheVariants.{Sent, Closed, NoRoom, Nothing}
use Rattle.dia_c_calls.specs.Held.{Takes, peer_in}
use Rattle.dia_c_calls.specs.PeerSteps.{PlainEnd, IsTaken, WantsRoom, plain_end}
use Rattle.dia_c_calls.proofs.Next.{next_of}

pub at_place : {A : Type 0} (xs : List A) (i : ℕ) (x : A) → i < length xs → x ≡ get_or xs i x → slice_get xs i ≡ Some x
at_place xs i x within is = slice_get-get_or xs i x within ∙ ap (λ y. Some y) (sym is)

abbrev wanted_of : Given → ℕ
wanted_of (Sent count) = 0
wanted_of (Closed why) = 0
wanted_of (NoRoom count) = count
wanted_of Nothing = 0

-- the message at the next place wants room
pub wants_room : (peer : Peer) (o : Output) (bytes : List ℕ) (count n : ℕ) → slice_get peer.outputs.items peer.taken ≡ Some o → plain_output o ≡ SentBytes bytes → n ≡ length bytes
    → NoRoom n ≡ NoRoom count → WantsRoom count (plain_end peer)
wants_room peer o bytes count n at is long same =
    WantsRoom.message bytes (map plain_output (drop (peer.taken + 1) peer.outputs.items))
    (next_of plain_output peer.outputs.items peer.taken o at ∙ ap (λ (p : PlainOutput). p ∷ map plain_output (drop (peer.taken + 1) peer.outputs.items)) is)
    (sym (ap wanted_of same) ∙ long)

-- a box whose value has not changed is held as before
pub same_box : (held : Held) (b : Box Peer Global) (v : Peer) → held ≡ holds.Peer b → v ≡ b.value → holds.Peer (with_value b v) ≡ held
same_box held b v is same = ap (λ (w : Peer). holds.Peer (with_value b w)) same ∙ sym is

-- what is known of the end is known of what is held
pub held_end : (P : PlainEnd → Type 0) (held : Held) (b : Box Peer Global) (v : Peer) → held ≡ holds.Peer b → v ≡ b.value → P (plain_end v) → IfSome (peer_in (Some held)) P
held_end P held b v is same p = subst (λ (h : Held). IfSome (peer_in (Some h)) P) (sym is) (subst (λ (w : Peer). P (plain_end w)) same p)

pub takes_held : (held : Held) (b : Box Peer Global) (v w : Peer) (o : PlainOutput) → held ≡ holds.Peer b → v ≡ b.value → IsTaken (plain_end v) (plain_end w) o
    → Takes (peer_in (Some held)) (Some (plain_end w)) o
takes_held held b v w o is same t =
    Takes.taken (plain_end b.value) (plain_end w) (ap (λ (h : Held). peer_in (Some h)) is) refl (subst (λ (x : Peer). IsTaken (plain_end x) (plain_end w) o) same t)

-- and of the handle
pub takes_moved : (old new : Option Held) (before after given : Held) (o : PlainOutput) → old ≡ Some before → new ≡ Some after → given ≡ before
    → Takes (peer_in (Some given)) (peer_in (Some after)) o → Takes (peer_in old) (peer_in new) o
takes_moved old new before after given o is_old is_new same t =
    subst (λ (h : Option Held). Takes (peer_in h) (peer_in new) o) (sym is_old) (subst (λ (h : Option Held). Takes (peer_in (Some before)) (peer_in h) o) (sym is_new)
    (subst (λ (h : Held). Takes (peer_in (Some h)) (peer_in (Some after)) o) same t))
