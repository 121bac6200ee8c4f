-- A level that is gone through AVP by AVP.
use Rattle.std.proofs.Common.{◌≡◌, ℕ, ◌<◌, List, [], ◌∷◌, ◌++◌, length, map, take, drop, ◌-◌, ◌+◌, ◌≤◌, ◌≢◌, append-nil, refl, sym, ap, subst, ◌∙◌, append_assoc, arith}
use Rattle.std.specs.Prelude.{Result, Ok, Err, IfOk}
use Rattle.byteorder.specs.Endian.{big_from}
use Rattle.dia_wire.specs.Number.{number}
use Rattle.dia_wire.proofs.Fields.{big_from-number}
use Rattle.dia_check.specs.declared.Reason.{Reason}
use Rattle.dia_check.specs.declared.Reason.TheVariants as reason
use Rattle.std.proofs.lemmas.List.{length-drop, map-append, take_rest}
use Rattle.dia_answer.specs.declared.held.Held.{Held}
use Rattle.dia_wire.specs.Wire.{PlainAvp, plain_avp, avp_length, Agrees, Spells, SpellsAll, BeginsWith}
use Rattle.dia_wire.proofs.Spelling.{opened, rounded-le, at_least_8}
use Rattle.dia_answer.specs.Requests.{AreFront, AreRequestAvps}

pub begun : (v : PlainAvp) (front : List ℕ) → Spells v front → 0 < length front
begun v front s = let o = opened v front [] s in omega (arith, o.front_length, rounded-le (avp_length v), at_least_8 v.vendor)

pub begins_agrees : (v : PlainAvp) (level rest : List ℕ) → BeginsWith v level rest → Agrees v
begins_agrees v level rest b = b.1.agrees

-- one AVP more
pub spelled_more : (vs : List PlainAvp) (v : PlainAvp) (b front : List ℕ) → SpellsAll vs b → Spells v front → SpellsAll (vs ++ v ∷ []) (b ++ front)
spelled_more [] v b front all s = (front, [], s, ap (λ (x : List ℕ). x ++ front) all ∙ sym (append-nil front), refl)
spelled_more (w ∷ vs) v b front (head, rest, t, parts, all) s =
    (head, rest ++ front, t, ap (λ (x : List ℕ). x ++ front) parts ∙ append_assoc head rest front, spelled_more vs v rest front all s)

abbrev pub plain_held : Held → PlainAvp
plain_held h = plain_avp h.avp

-- these AVPs were read, and this is left
pub record HasRead (level : List ℕ) (avps : List Held) (left : List ℕ) : Type 0 where
  pub front : List ℕ
  pub parts : level ≡ front ++ left
  pub spelled : SpellsAll (map plain_held avps) front

pub read_more : (level : List ℕ) (avps new : List Held) (v : Held) (left rest : List ℕ) → HasRead level avps left → BeginsWith (plain_held v) left rest → new ≡ avps ++ v ∷ [] → HasRead level new rest
read_more level avps new v left rest r b is = record {
  front = r.front ++ b.0;
  parts = r.parts ∙ ap (λ (x : List ℕ). r.front ++ x) b.2 ∙ sym (append_assoc r.front b.0 rest);
  spelled = subst (λ (vs : List PlainAvp). SpellsAll vs (r.front ++ b.0)) (sym (ap (map plain_held) is ∙ map-append plain_held avps (v ∷ []))) (spelled_more (map plain_held avps) (plain_held v) r.front b.0 r.spelled b.1);
}

pub IfOk-map : {X E : Type 0} (P Q : X → Type 0) → ((x : X) → P x → Q x) → (r : Result X E) → IfOk r P → IfOk r Q
IfOk-map P Q h (Ok x) p = h x p
IfOk-map P Q h (Err e) p = tt

-- a number that was read from a place on
pub read_field : (i n x : ℕ) (xs : List ℕ) → i + n ≤ length xs → x ≡ big_from 0 n (take (length xs - i) (drop i xs)) → x ≡ number (take n (drop i xs))
read_field i n x xs h e = e ∙ ap (big_from 0 n) (take_rest xs i) ∙ big_from-number n (drop i xs) (omega (arith, h, length-drop i xs))

-- the AVPs of a body with bounds
pub read_body : (r : Reason) (avps : List PlainAvp) (bytes : List ℕ) → r ≢ reason.Version → r ≢ reason.Length → AreFront avps (drop 20 bytes) → AreRequestAvps r avps bytes
read_body reason.Version avps bytes v l h = absurd (v refl)
read_body reason.Length avps bytes v l h = absurd (l refl)
read_body reason.Bits avps bytes v l h = h
read_body reason.Command avps bytes v l h = h
read_body reason.Application avps bytes v l h = h
read_body reason.Proxiable avps bytes v l h = h
read_body reason.AvpLength avps bytes v l h = h
read_body reason.Unknown avps bytes v l h = h
read_body reason.MBit avps bytes v l h = h
read_body reason.Missing avps bytes v l h = h
read_body reason.NotAllowed avps bytes v l h = h
read_body reason.TooMany avps bytes v l h = h
read_body reason.LeafLength avps bytes v l h = h
read_body reason.LeafValue avps bytes v l h = h
read_body reason.Depth avps bytes v l h = h
