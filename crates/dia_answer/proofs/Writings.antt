-- A message is spelled by one list of bytes, where its padding is zero.
use Rattle.std.proofs.Common.{◌≡◌, ℕ, suc, ◌+◌, ◌*◌, ◌<◌, List, [], ◌∷◌, ◌++◌, length, get_or, Option, Some, None, refl, sym, ap, subst, ◌∙◌, arith}
use Rattle.std.specs.List.{AllByRecursion}
use Rattle.std.proofs.lemmas.List.{length-append}
use Rattle.std.proofs.lemmas.List.Elements.{recursion_from_All}
use Rattle.dia_wire.specs.declared.Header.{Header}
use Rattle.dia_wire.specs.Number.{number, IsField}
use Rattle.dia_wire.specs.Wire.{PlainAvp, avp_length, IsVendorField, SpellsWithZeros, SpellsAllWithZeros, IsHead, MessageWithZeros}
use Rattle.dia_wire.proofs.Spelling.{opened}
use Rattle.dia_answer.specs.Requests.{AreBytes}
use Rattle.dia_answer.proofs.Messages.{head_size}

pub are_bytes : (bytes : List ℕ) → ((k : ℕ) → get_or bytes k 0 < 256) → AreBytes bytes
are_bytes [] h = tt
are_bytes (b ∷ bytes) h = (h 0, are_bytes bytes (λ k. h (suc k)))

pub bytes_cases : (a b : List ℕ) → AreBytes (a ++ b) → AreBytes a × AreBytes b
bytes_cases [] b h = (tt, h)
bytes_cases (x ∷ a) b h = let r = bytes_cases a b h.1 in ((h.0, r.0), r.1)

-- ---- fields of bytes

abbrev at : List ℕ → ℕ → ℕ
at xs i = get_or xs i 0

three_of : (a : List ℕ) → length a ≡ 3 → a ≡ at a 0 ∷ at a 1 ∷ at a 2 ∷ []
three_of [] e = absurd (omega (arith, e))
three_of (x ∷ []) e = absurd (omega (arith, e))
three_of (x ∷ y ∷ []) e = absurd (omega (arith, e))
three_of (x ∷ y ∷ z ∷ []) e = refl
three_of (x ∷ y ∷ z ∷ w ∷ more) e = absurd (let f : suc (suc (suc (suc (length more)))) ≡ 3 = e in omega (arith, f))

four_of : (a : List ℕ) → length a ≡ 4 → a ≡ at a 0 ∷ at a 1 ∷ at a 2 ∷ at a 3 ∷ []
four_of [] e = absurd (omega (arith, e))
four_of (x ∷ []) e = absurd (omega (arith, e))
four_of (x ∷ y ∷ []) e = absurd (omega (arith, e))
four_of (x ∷ y ∷ z ∷ []) e = absurd (omega (arith, e))
four_of (x ∷ y ∷ z ∷ w ∷ []) e = refl
four_of (x ∷ y ∷ z ∷ w ∷ v ∷ more) e = absurd (let f : suc (suc (suc (suc (suc (length more))))) ≡ 4 = e in omega (arith, f))

three_numbers : (a c e b d f x : ℕ) → AreBytes (a ∷ c ∷ e ∷ []) → AreBytes (b ∷ d ∷ f ∷ []) → number (a ∷ c ∷ e ∷ []) ≡ x → number (b ∷ d ∷ f ∷ []) ≡ x → a ∷ c ∷ e ∷ [] ≡ b ∷ d ∷ f ∷ []
three_numbers a c e b d f x h k m n =
    let u : a * 65536 + (c * 256 + (e * 1 + 0)) ≡ x = m in
    let v : b * 65536 + (d * 256 + (f * 1 + 0)) ≡ x = n in
    let one : a ≡ b = omega (arith, u, v, h.0, h.1.0, h.1.1.0, k.0, k.1.0, k.1.1.0) in
    let two : c ≡ d = omega (arith, u, v, h.0, h.1.0, h.1.1.0, k.0, k.1.0, k.1.1.0) in
    let three : e ≡ f = omega (arith, u, v, h.0, h.1.0, h.1.1.0, k.0, k.1.0, k.1.1.0) in
    λ i. one i ∷ two i ∷ three i ∷ []

four_numbers : (a c e g b d f j x : ℕ) → AreBytes (a ∷ c ∷ e ∷ g ∷ []) → AreBytes (b ∷ d ∷ f ∷ j ∷ []) → number (a ∷ c ∷ e ∷ g ∷ []) ≡ x → number (b ∷ d ∷ f ∷ j ∷ []) ≡ x
    → a ∷ c ∷ e ∷ g ∷ [] ≡ b ∷ d ∷ f ∷ j ∷ []
four_numbers a c e g b d f j x h k m n =
    let u : a * 16777216 + (c * 65536 + (e * 256 + (g * 1 + 0))) ≡ x = m in
    let v : b * 16777216 + (d * 65536 + (f * 256 + (j * 1 + 0))) ≡ x = n in
    let one : a ≡ b = omega (arith, u, v, h.0, h.1.0, h.1.1.0, h.1.1.1.0, k.0, k.1.0, k.1.1.0, k.1.1.1.0) in
    let two : c ≡ d = omega (arith, u, v, h.0, h.1.0, h.1.1.0, h.1.1.1.0, k.0, k.1.0, k.1.1.0, k.1.1.1.0, one) in
    let three : e ≡ f = omega (arith, u, v, h.0, h.1.0, h.1.1.0, h.1.1.1.0, k.0, k.1.0, k.1.1.0, k.1.1.1.0, one, two) in
    let last : g ≡ j = omega (arith, u, v, one, two, three) in
    λ i. one i ∷ two i ∷ three i ∷ last i ∷ []

pub three_same : (a b : List ℕ) (x : ℕ) → AreBytes a → AreBytes b → IsField 3 x a → IsField 3 x b → a ≡ b
three_same a b x h k m n =
    let s = three_of a m.width in let t = three_of b n.width in
    s ∙ three_numbers (at a 0) (at a 1) (at a 2) (at b 0) (at b 1) (at b 2) x (subst AreBytes s h) (subst AreBytes t k) (ap number (sym s) ∙ m.value) (ap number (sym t) ∙ n.value) ∙ sym t

pub four_same : (a b : List ℕ) (x : ℕ) → AreBytes a → AreBytes b → IsField 4 x a → IsField 4 x b → a ≡ b
four_same a b x h k m n =
    let s = four_of a m.width in let t = four_of b n.width in
    s ∙ four_numbers (at a 0) (at a 1) (at a 2) (at a 3) (at b 0) (at b 1) (at b 2) (at b 3) x (subst AreBytes s h) (subst AreBytes t k) (ap number (sym s) ∙ m.value) (ap number (sym t) ∙ n.value)
    ∙ sym t

vendor_same : (o : Option ℕ) (a b : List ℕ) → AreBytes a → AreBytes b → IsVendorField o a → IsVendorField o b → a ≡ b
vendor_same None a b h k m n = m ∙ sym n
vendor_same (Some x) a b h k m n = four_same a b x h k m n

zeros_same : (a b : List ℕ) → length a ≡ length b → AllByRecursion (λ byte. byte ≡ 0) a → AllByRecursion (λ byte. byte ≡ 0) b → a ≡ b
zeros_same [] [] e h k = refl
zeros_same [] (y ∷ b) e h k = absurd (omega (arith, e))
zeros_same (x ∷ a) [] e h k = absurd (omega (arith, e))
zeros_same (x ∷ a) (y ∷ b) e h k =
    let first : x ≡ y = h.0 ∙ sym k.0 in let later : a ≡ b = zeros_same a b (omega (arith, e)) h.1 k.1 in
    λ i. first i ∷ later i

five_parts : (code len vendor bytes padding : List ℕ) → AreBytes (code ++ len ++ vendor ++ bytes ++ padding) → AreBytes code × AreBytes len × AreBytes vendor × AreBytes padding
five_parts code len vendor bytes padding h =
    let a = bytes_cases (code ++ len ++ vendor ++ bytes) padding h in
    let b = bytes_cases (code ++ len ++ vendor) bytes a.0 in
    let c = bytes_cases (code ++ len) vendor b.0 in
    let d = bytes_cases code len c.0 in
    (d.0, d.1, c.1, a.1)

avp_same : (v : PlainAvp) (a b : List ℕ) → AreBytes a → AreBytes b → SpellsWithZeros v a → SpellsWithZeros v b → a ≡ b
avp_same v a b h k s t =
    let p = s.spells in let q = t.spells in
    let hs = five_parts p.code (v.flags ∷ p.len) p.vendor v.bytes p.padding (subst AreBytes p.parts h) in
    let ks = five_parts q.code (v.flags ∷ q.len) q.vendor v.bytes q.padding (subst AreBytes q.parts k) in
    let code : p.code ≡ q.code = four_same p.code q.code v.code hs.0 ks.0 p.code_field q.code_field in
    let len : p.len ≡ q.len = three_same p.len q.len (avp_length v) hs.1.1 ks.1.1 p.length_field q.length_field in
    let vendor : p.vendor ≡ q.vendor = vendor_same v.vendor p.vendor q.vendor hs.2 ks.2 p.vendor_field q.vendor_field in
    let front_p = p.code ++ (v.flags ∷ p.len) ++ p.vendor ++ v.bytes in
    let front_q = q.code ++ (v.flags ∷ q.len) ++ q.vendor ++ v.bytes in
    let fronts : front_p ≡ front_q = λ i. code i ++ (v.flags ∷ len i) ++ vendor i ++ v.bytes in
    let size : length a ≡ length b = (opened v a [] p).front_length ∙ sym (opened v b [] q).front_length in
    let pads : length p.padding ≡ length q.padding = omega (arith, size, ap length p.parts ∙ length-append front_p p.padding, ap length q.parts ∙ length-append front_q q.padding, ap length fronts) in
    let padding : p.padding ≡ q.padding = zeros_same p.padding q.padding pads (recursion_from_All (λ byte. byte ≡ 0) p.padding s.zeros) (recursion_from_All (λ byte. byte ≡ 0) q.padding t.zeros) in
    p.parts ∙ (λ i. fronts i ++ padding i) ∙ sym q.parts

list_same : (vs : List PlainAvp) (a b : List ℕ) → AreBytes a → AreBytes b → SpellsAllWithZeros vs a → SpellsAllWithZeros vs b → a ≡ b
list_same [] a b h k s t = s ∙ sym t
list_same (v ∷ vs) a b h k (f, x, s, p, all) (g, y, t, q, also) =
    let hs = bytes_cases f x (subst AreBytes p h) in let ks = bytes_cases g y (subst AreBytes q k) in
    let one = avp_same v f g hs.0 ks.0 s t in let more = list_same vs x y hs.1 ks.1 all also in
    p ∙ (λ i. one i ++ more i) ∙ sym q

head_same : (h : Header) (n : ℕ) (a b : List ℕ) → AreBytes a → AreBytes b → IsHead h n a → IsHead h n b → a ≡ b
head_same h n a b ha hb s t =
    let x = five_parts (1 ∷ s.len) (h.flags ∷ s.code) s.app s.hop s.e2e (subst AreBytes s.parts ha) in
    let y = five_parts (1 ∷ t.len) (h.flags ∷ t.code) t.app t.hop t.e2e (subst AreBytes t.parts hb) in
    let xh = bytes_cases ((1 ∷ s.len) ++ (h.flags ∷ s.code) ++ s.app) s.hop (bytes_cases ((1 ∷ s.len) ++ (h.flags ∷ s.code) ++ s.app ++ s.hop) s.e2e (subst AreBytes s.parts ha)).0 in
    let yh = bytes_cases ((1 ∷ t.len) ++ (h.flags ∷ t.code) ++ t.app) t.hop (bytes_cases ((1 ∷ t.len) ++ (h.flags ∷ t.code) ++ t.app ++ t.hop) t.e2e (subst AreBytes t.parts hb)).0 in
    let len = three_same s.len t.len n x.0.1 y.0.1 s.length_field t.length_field in
    let code = three_same s.code t.code h.code x.1.1 y.1.1 s.code_field t.code_field in
    let app = four_same s.app t.app h.app x.2 y.2 s.app_field t.app_field in
    let hop = four_same s.hop t.hop h.hop xh.1 yh.1 s.hop_field t.hop_field in
    let e2e = four_same s.e2e t.e2e h.e2e x.3 y.3 s.e2e_field t.e2e_field in
    s.parts ∙ (λ i. (1 ∷ len i) ++ (h.flags ∷ code i) ++ app i ++ hop i ++ e2e i) ∙ sym t.parts

pub one_writing : (h : Header) (vs : List PlainAvp) (a b : List ℕ) → AreBytes a → AreBytes b → MessageWithZeros h vs a → MessageWithZeros h vs b → a ≡ b
one_writing h vs a b ha hb m n =
    let s = m.message in let t = n.message in
    let x = bytes_cases s.head s.body (subst AreBytes s.parts ha) in let y = bytes_cases t.head t.body (subst AreBytes t.parts hb) in
    let bodies = list_same vs s.body t.body x.1 y.1 m.zeros n.zeros in
    let size : length a ≡ length b =
    omega (arith, ap length s.parts ∙ length-append s.head s.body, ap length t.parts ∙ length-append t.head t.body, head_size s.head s.is_head, head_size t.head t.is_head, ap length bodies) in
    let heads = head_same h (length b) s.head t.head x.0 y.0 (subst (λ (n : ℕ). IsHead h n s.head) size s.is_head) t.is_head in
    s.parts ∙ (λ i. heads i ++ bodies i) ∙ sym t.parts
