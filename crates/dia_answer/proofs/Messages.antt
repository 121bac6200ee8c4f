-- Bytes are at most one message.
use Rattle.std.proofs.Common.{◌≡◌, ℕ, List, [], ◌∷◌, ◌++◌, length, take, refl, sym, ap, subst, ◌∙◌, arith}
use Rattle.std.proofs.Math.Seq.{take-append_seam}
use Rattle.std.proofs.lemmas.List.{append_cancel_left, length-append}
use Rattle.dia_wire.specs.declared.Header.{Header}
use Rattle.dia_wire.specs.Wire.{PlainAvp, SpellsAll, IsHead, IsMessage}
use Rattle.dia_wire.proofs.Spelling.{one_spelling}
use Rattle.dia_wire.proofs.OneHeader.{one_header}
use Rattle.dia_answer.proofs.Fronts.{begun}

parts_same : (a b x y : List ℕ) → length a ≡ length b → a ++ x ≡ b ++ y → (a ≡ b) × (x ≡ y)
parts_same a b x y same e =
    let fronts : a ≡ b = sym (take-append_seam a x) ∙ ap (λ (n : ℕ). take n (a ++ x)) same ∙ ap (take (length b)) e ∙ take-append_seam b y in
    (fronts, append_cancel_left b x y (ap (λ (f : List ℕ). f ++ x) (sym fronts) ∙ e))

pub one_list : (vs ws : List PlainAvp) (b : List ℕ) → SpellsAll vs b → SpellsAll ws b → vs ≡ ws
one_list [] [] b h k = refl
one_list [] (w ∷ ws) b h (front, rest, s, parts, all) = absurd (omega (arith, begun w front s, ap length h, ap length parts, length-append front rest))
one_list (v ∷ vs) [] b (front, rest, s, parts, all) k = absurd (omega (arith, begun v front s, ap length k, ap length parts, length-append front rest))
one_list (v ∷ vs) (w ∷ ws) b (f, x, s, p, all) (g, y, t, q, also) =
    let o = one_spelling v w f g x y s t (sym p ∙ q) in
    let rests : x ≡ y = append_cancel_left f x y (sym p ∙ q ∙ ap (λ (z : List ℕ). z ++ y) (sym o.1)) in
    let later : vs ≡ ws = one_list vs ws x all (subst (SpellsAll ws) (sym rests) also) in
    λ i. o.0 i ∷ later i

pub head_size : {h : Header} {n : ℕ} (b : List ℕ) → IsHead h n b → length b ≡ 20
head_size {h} b s =
    ap length s.parts ∙ (let a = length-append ((1 ∷ s.len) ++ (h.flags ∷ s.code) ++ s.app ++ s.hop) s.e2e in let c = length-append ((1 ∷ s.len) ++ (h.flags ∷ s.code) ++ s.app) s.hop in
    let d = length-append ((1 ∷ s.len) ++ (h.flags ∷ s.code)) s.app in let e = length-append (1 ∷ s.len) (h.flags ∷ s.code) in
    omega (arith, a, c, d, e, s.length_field.width, s.code_field.width, s.app_field.width, s.hop_field.width, s.e2e_field.width))

pub one_message : (h k : Header) (vs ws : List PlainAvp) (b : List ℕ) → IsMessage h vs b → IsMessage k ws b → (h ≡ k) × (vs ≡ ws)
one_message h k vs ws b m n =
    let o = parts_same m.head n.head m.body n.body (head_size m.head m.is_head ∙ sym (head_size n.head n.is_head)) (sym m.parts ∙ n.parts) in
    let heads = one_header h k (length b) (length b) m.head m.is_head (subst (IsHead k (length b)) (sym o.0) n.is_head) in
    (heads.0, one_list vs ws m.body m.is_body (subst (SpellsAll ws) (sym o.1) n.is_body))
