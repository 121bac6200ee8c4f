-- The data of AVPs are bytes where what spells them is.
use Rattle.std.proofs.Common.{ℕ, ◌<◌, List, [], ◌∷◌, ◌++◌, subst, sym, inl, inr}
use Rattle.dia_wire.specs.declared.Header.{Header}
use Rattle.dia_wire.specs.Wire.{PlainAvp, Spells, SpellsAll, IsMessage}
use Rattle.dia_breaking_sites.specs.Sent.{AreBytes}
use Rattle.dia_breaking_sites.proofs.Members.{IsIn, all_parts}

abbrev IsByte : ℕ → Type 0
IsByte byte = byte < 256

data_of : (v : PlainAvp) (front : List ℕ) → Spells v front → AreBytes front → AreBytes v.bytes
data_of v front s are =
    let all = subst AreBytes s.parts are in
    let before = s.code ++ (v.flags ∷ s.len) ++ s.vendor in
    (all_parts IsByte before v.bytes (all_parts IsByte (before ++ v.bytes) s.padding all).0).1

pub data_bytes : (avps : List PlainAvp) (bytes : List ℕ) (v : PlainAvp) → SpellsAll avps bytes → AreBytes bytes → IsIn v avps → AreBytes v.bytes
data_bytes [] bytes v h are i = absurd i
data_bytes (w ∷ avps) bytes v (front, rest, s, parts, later) are (inl e) =
    subst (λ (x : PlainAvp). AreBytes x.bytes) (sym e) (data_of w front s (all_parts IsByte front rest (subst AreBytes parts are)).0)
data_bytes (w ∷ avps) bytes v (front, rest, s, parts, later) are (inr i) = data_bytes avps rest v later (all_parts IsByte front rest (subst AreBytes parts are)).1 i

pub body_bytes : (h : Header) (vs : List PlainAvp) (b : List ℕ) (m : IsMessage h vs b) → AreBytes b → AreBytes m.body
body_bytes h vs b m are = (all_parts IsByte m.head m.body (subst AreBytes m.parts are)).1
