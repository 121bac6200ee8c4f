-- Bytes spell one header at most, and what the first of them say.
use Rattle.std.proofs.Common.{◌≡◌, ℕ, suc, ◌+◌, ◌≤◌, List, [], ◌∷◌, ◌++◌, length, take, drop, get_or, sym, ap, ◌∙◌, arith}
use Rattle.std.specs.Prelude.{slice_index}
use Rattle.std.proofs.Math.Seq.{take-append_seam}
use Rattle.std.proofs.lemmas.List.{append_cancel_left, length-append, length-take, take-take, take-append-le, take_all}
use Rattle.dia_wire.specs.declared.header.Header.{Header}
use Rattle.dia_wire.specs.Number.{number}
use Rattle.dia_wire.specs.Wire.{IsHead}

-- lists whose fronts are of one length have the same fronts and the same rests
append_parts : (a b x y : List ℕ) → length a ≡ length b → a ++ x ≡ b ++ y → (a ≡ b) × (x ≡ y)
append_parts a b x y same e =
    let fronts : a ≡ b = sym (take-append_seam a x) ∙ ap (λ (n : ℕ). take n (a ++ x)) same ∙ ap (take (length b)) e ∙ take-append_seam b y in
    (fronts, append_cancel_left b x y (ap (λ (f : List ℕ). f ++ x) (sym fronts) ∙ e))

length-parts : (a b x y : List ℕ) → length a ≡ length b → length x ≡ length y → length (a ++ x) ≡ length (b ++ y)
length-parts a b x y e f = length-append a x ∙ ap (λ (n : ℕ). n + length x) e ∙ ap (λ (n : ℕ). length b + n) f ∙ sym (length-append b y)

-- a header's bytes up to the end of a field
abbrev to_code_of : {h : Header} {n : ℕ} {b : List ℕ} → IsHead h n b → List ℕ
to_code_of {h} s = (1 ∷ s.len) ++ (h.flags ∷ s.code)

abbrev to_app_of : {h : Header} {n : ℕ} {b : List ℕ} → IsHead h n b → List ℕ
to_app_of s = to_code_of s ++ s.app

abbrev to_hop_of : {h : Header} {n : ℕ} {b : List ℕ} → IsHead h n b → List ℕ
to_hop_of s = to_app_of s ++ s.hop

pub one_header : (h k : Header) (n m : ℕ) (b : List ℕ) → IsHead h n b → IsHead k m b → (h ≡ k) × (n ≡ m)
one_header h k n m b s t =
    let to_len : length (1 ∷ s.len) ≡ length (1 ∷ t.len) = ap suc (s.length_field.width ∙ sym t.length_field.width) in
    let to_code = length-parts (1 ∷ s.len) (1 ∷ t.len) (h.flags ∷ s.code) (k.flags ∷ t.code) to_len (ap suc (s.code_field.width ∙ sym t.code_field.width)) in
    let to_app = length-parts (to_code_of s) (to_code_of t) s.app t.app to_code (s.app_field.width ∙ sym t.app_field.width) in
    let to_hop = length-parts (to_app_of s) (to_app_of t) s.hop t.hop to_app (s.hop_field.width ∙ sym t.hop_field.width) in
    let e2e = append_parts (to_hop_of s) (to_hop_of t) s.e2e t.e2e to_hop (sym s.parts ∙ t.parts) in
    let hop = append_parts (to_app_of s) (to_app_of t) s.hop t.hop to_app e2e.0 in
    let app = append_parts (to_code_of s) (to_code_of t) s.app t.app to_code hop.0 in
    let code = append_parts (1 ∷ s.len) (1 ∷ t.len) (h.flags ∷ s.code) (k.flags ∷ t.code) to_len app.0 in
    let flags_same : h.flags ≡ k.flags = ap (λ (f : List ℕ). get_or f 0 0) code.1 in
    let code_same : h.code ≡ k.code = sym s.code_field.value ∙ ap (λ (f : List ℕ). number (drop 1 f)) code.1 ∙ t.code_field.value in
    let app_same : h.app ≡ k.app = sym s.app_field.value ∙ ap number app.1 ∙ t.app_field.value in
    let hop_same : h.hop ≡ k.hop = sym s.hop_field.value ∙ ap number hop.1 ∙ t.hop_field.value in
    let e2e_same : h.e2e ≡ k.e2e = sym s.e2e_field.value ∙ ap number e2e.1 ∙ t.e2e_field.value in (
      λ i. record { flags = flags_same i; code = code_same i; app = app_same i; hop = hop_same i; e2e = e2e_same i },
      sym s.length_field.value ∙ ap (λ (f : List ℕ). number (drop 1 f)) code.0 ∙ t.length_field.value,
    )

-- the first n bytes
abbrev Front : ℕ → List ℕ → List ℕ → Type 0
Front n front xs = (n ≤ length xs) × (take n xs ≡ front)

Front-more : (n : ℕ) (front xs ys : List ℕ) → Front n front xs → Front n front (xs ++ ys)
Front-more n front xs ys (long, same) = (omega (arith, long, length-append xs ys), take-append-le n xs ys long ∙ same)

-- the first byte is the version 1, and the next three are the Message Length
pub head_says : (h : Header) (n : ℕ) (bytes : List ℕ) → IsHead h n (take 20 bytes) → (20 ≤ length bytes) × (slice_index bytes 0 ≡ 1) × (number (take 3 (drop 1 bytes)) ≡ n)
head_says h n bytes s =
    let begun : Front 4 (1 ∷ s.len) (1 ∷ s.len) = (let w = s.length_field.width in omega arith, take_all 4 (1 ∷ s.len) (let w = s.length_field.width in omega arith)) in
    let front : Front 4 (1 ∷ s.len) (take 20 bytes) = rw s.parts
    (Front-more 4 (1 ∷ s.len) (to_hop_of s) s.e2e
    (Front-more 4 (1 ∷ s.len) (to_app_of s) s.hop (Front-more 4 (1 ∷ s.len) (to_code_of s) s.app (Front-more 4 (1 ∷ s.len) (1 ∷ s.len) (h.flags ∷ s.code) begun)))) in
    let to_app = length-append (1 ∷ s.len) (h.flags ∷ s.code) in
    let size : length (take 20 bytes) ≡ 20 = ap length s.parts
    ∙ (let a = length-append (to_hop_of s) s.e2e in let b = length-append (to_app_of s) s.hop in let c = length-append (to_code_of s) s.app in
    omega (arith, a, b, c, to_app, s.length_field.width, s.code_field.width, s.app_field.width, s.hop_field.width, s.e2e_field.width)) in
    let long : 20 ≤ length bytes = omega (arith, length-take 20 bytes, size) in
    let four : take 4 bytes ≡ 1 ∷ s.len = sym (take-take 4 20 bytes (omega arith)) ∙ front.1 in
    let says = by bytes long four in
    (long, says.0, says.1)
  where
    by : (xs : List ℕ) → 20 ≤ length xs → take 4 xs ≡ 1 ∷ s.len → (slice_index xs 0 ≡ 1) × (number (take 3 (drop 1 xs)) ≡ n)
    by [] long four = absurd (omega (arith, long))
    by (x ∷ xs) long four = (ap (λ (f : List ℕ). get_or f 0 0) four, ap (λ (f : List ℕ). number (drop 1 f)) four ∙ s.length_field.value)
