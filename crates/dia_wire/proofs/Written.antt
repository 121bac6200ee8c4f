-- What is written is a spelling, and a message of them.
use Rattle.std.proofs.Common.{◌≡◌, ℕ, suc, zero, ◌+◌, ◌-◌, ◌*◌, ◌/◌, ◌%◌, ◌^◌, ◌<◌, ◌≤◌, List, [], ◌∷◌, ◌++◌, Option, Some}
use Rattle.std.proofs.Common.{None, map, length, take, get_or, refl, sym, ap, subst, ◌∙◌, append_assoc, arith, inl, inr}
use Rattle.std.specs.Prelude.{sum_by}
use Rattle.std.specs.List.{AllByRecursion}
use Rattle.std.proofs.lemmas.List.{append-nil, length-append, length-take, take_all, take_more}
use Rattle.std.proofs.lemmas.List.Elements.{All-from_recursion}
use Rattle.std.proofs.lemmas.List.Sums.{sum_by-cons, sum_by_more, sum_by-take-le, get_or-le-sum_by}
use Rattle.byteorder.specs.Endian.{big_from, big_bytes}
use Rattle.byteorder.specs.Numbers.{big_number-reads_back}
use Rattle.dia_wire.specs.declared.avp.Avp.{Avp}
use Rattle.dia_wire.specs.declared.header.Header.{Header}
use Rattle.dia_wire.specs.Number.{number, IsField}
use Rattle.dia_wire.specs.Wire.{PlainAvp, plain_avp, Agrees, avp_length, head_length, padded_length, IsVendorField, IsTooLong, IsHead, SpellsAll, SpellsWithZeros, SpellsAllWithZeros, MessageWithZeros}
use Rattle.dia_wire.specs.Written.{avp_bytes, header_bytes, padding, vendor_bytes}
use Rattle.dia_wire.proofs.Fields.{big_from-number}
use Rattle.dia_wire.proofs.Spelling.{rounded-le, opened}

-- ---- lengths

sum_by-map : {X Y : Type 0} (f : Y → ℕ) (g : X → Y) (xs : List X) → sum_by f (map g xs) ≡ sum_by (λ x. f (g x)) xs
sum_by-map f g [] = refl
sum_by-map f g (x ∷ xs) = sum_by-cons f (g x) (map g xs) ∙ ap (λ (n : ℕ). f (g x) + n) (sum_by-map f g xs) ∙ sym (sum_by-cons (λ x. f (g x)) x xs)

too_long_sum : (vs : List PlainAvp) → IsTooLong vs → 2 ^ 24 ≤ 20 + sum_by padded_length vs
too_long_sum vs (inl (k, v, within, is_v, long)) =
    let part : padded_length v ≤ sum_by padded_length vs = subst (λ (w : PlainAvp). padded_length w ≤ sum_by padded_length vs) is_v (get_or-le-sum_by padded_length vs k v within) in
    omega (arith, part, long, rounded-le (avp_length v))
too_long_sum vs (inr h) = h

pub fits_length : (xs : List Avp) (total : ℕ) → total ≡ 20 + sum_by (λ x. padded_length (plain_avp x)) xs → total < 2 ^ 24 → ¬ IsTooLong (map plain_avp xs)
fits_length xs total is_total small long =
    let h = too_long_sum (map plain_avp xs) long in
    omega (arith, is_total, small, subst (λ (n : ℕ). 2 ^ 24 ≤ 20 + n) (sum_by-map padded_length plain_avp xs) h)

-- the part of one AVP is within the whole
pub part_fits : (xs : List Avp) (total i : ℕ) (d : Avp) → total ≡ 20 + sum_by padded_length (map plain_avp xs) → total < 2 ^ 24 → i < length xs → avp_length (plain_avp (get_or xs i d)) < 2 ^ 24
part_fits xs total i d is_total small within =
    let part = get_or-le-sum_by (λ (x : Avp). padded_length (plain_avp x)) xs i d within in
    omega (arith, is_total, small, part, sum_by-map padded_length plain_avp xs, rounded-le (avp_length (plain_avp (get_or xs i d))))

-- ---- fields

field_bytes : (n x : ℕ) → length (big_bytes n x) ≡ n → x < 256 ^ n → IsField n x (big_bytes n x)
field_bytes n x width small = record {
  width = width;
  value = ap number (sym (take_all n (big_bytes n x) (omega (arith, width)))) ∙ sym (big_from-number n (big_bytes n x) (omega (arith, width)))
      ∙ ap (λ (f : List ℕ). big_from 0 n f) (sym (append-nil (big_bytes n x))) ∙ big_number-reads_back n x [] small;
}

pub four : (x : ℕ) → x < 2 ^ 32 → IsField 4 x (big_bytes 4 x)
four x small = field_bytes 4 x refl (omega (arith, small))

three : (x : ℕ) → x < 2 ^ 24 → IsField 3 x (big_bytes 3 x)
three x small = field_bytes 3 x refl (omega (arith, small))

pub length-vendor_bytes : (vendor : Option ℕ) → length (vendor_bytes vendor) + 8 ≡ head_length vendor
length-vendor_bytes None = refl
length-vendor_bytes (Some n) = refl

-- ---- AVPs

zeros_are_zero : (k : ℕ) → k < 4 → AllByRecursion {X = ℕ} (λ byte. byte ≡ 0) (take k (0 ∷ 0 ∷ 0 ∷ []))
zeros_are_zero zero h = tt
zeros_are_zero (suc zero) h = (refl, tt)
zeros_are_zero (suc (suc zero)) h = (refl, (refl, tt))
zeros_are_zero (suc (suc (suc zero))) h = (refl, (refl, (refl, tt)))
zeros_are_zero (suc (suc (suc (suc k)))) h = absurd (omega arith)

pub padding_length : (len : ℕ) → length (padding len) ≡ (4 - len % 4) % 4
padding_length len = length-take ((4 - len % 4) % 4) (0 ∷ 0 ∷ 0 ∷ []) ∙ omega arith

avp_bytes-size : (v : PlainAvp) → length (vendor_bytes v.vendor ++ v.bytes ++ padding (avp_length v)) ≡ length (vendor_bytes v.vendor) + length v.bytes + length (padding (avp_length v))
avp_bytes-size v = length-append (vendor_bytes v.vendor ++ v.bytes) (padding (avp_length v)) ∙ ap (λ (n : ℕ). n + length (padding (avp_length v))) (length-append (vendor_bytes v.vendor) v.bytes)

pub avp_spelled : (v : PlainAvp) → Agrees v → avp_length v < 2 ^ 24 → IsField 4 v.code (big_bytes 4 v.code) → IsVendorField v.vendor (vendor_bytes v.vendor) → SpellsWithZeros v (avp_bytes v)
avp_spelled v agrees small code vendor = record {
  spells = record {
    code = big_bytes 4 v.code;
    len = big_bytes 3 (avp_length v);
    vendor = vendor_bytes v.vendor;
    padding = padding (avp_length v);
    parts = refl;
    code_field = code;
    length_field = three (avp_length v) small;
    vendor_field = vendor;
    agrees = agrees;
    short_padding = omega (arith, padding_length (avp_length v));
    aligned = omega (arith, avp_bytes-size v, length-vendor_bytes v.vendor, padding_length (avp_length v));
  };
  zeros = All-from_recursion (λ (byte : ℕ). byte ≡ 0) (padding (avp_length v)) (zeros_are_zero ((4 - avp_length v % 4) % 4) (omega arith));
}

-- ---- headers

pub header_spelled : (h : Header) (len : ℕ) → len < 2 ^ 24 → h.code < 2 ^ 24 → IsField 4 h.app (big_bytes 4 h.app)
    → IsField 4 h.hop (big_bytes 4 h.hop) → IsField 4 h.e2e (big_bytes 4 h.e2e) → IsHead h len (header_bytes h len)
header_spelled h len small code app hop e2e = record {
  len = big_bytes 3 len;
  code = big_bytes 3 h.code;
  app = big_bytes 4 h.app;
  hop = big_bytes 4 h.hop;
  e2e = big_bytes 4 h.e2e;
  parts = refl;
  length_field = three len small;
  code_field = three h.code code;
  app_field = app;
  hop_field = hop;
  e2e_field = e2e;
}

pub header_chain : (t t1 t2 t3 t4 t5 t6 t7 len code app hop e2e : List ℕ) (flags : ℕ) → t1 ≡ t ++ 1 ∷ [] → t2 ≡ t1 ++ len
    → t3 ≡ t2 ++ flags ∷ [] → t4 ≡ t3 ++ code → t5 ≡ t4 ++ app → t6 ≡ t5 ++ hop → t7 ≡ t6 ++ e2e
    → t7 ≡ t ++ ((1 ∷ len) ++ (flags ∷ code) ++ app ++ hop ++ e2e)
header_chain t t1 t2 t3 t4 t5 t6 t7 len code app hop e2e flags e1 e2 e3 e4 e5 e6 e7 = rw (e7, e6, e5, e4, e3, e2, e1) (simp append_assoc)

-- ---- messages

length-zeros : (v : PlainAvp) (b : List ℕ) → SpellsWithZeros v b → length b ≡ padded_length v
length-zeros v b s = (opened v b [] s.spells).front_length

length-all : (vs : List PlainAvp) (b : List ℕ) → SpellsAllWithZeros vs b → length b ≡ sum_by padded_length vs
length-all [] b h = ap length h
length-all (v ∷ vs) b (front, rest, s, parts, all) =
    ap length parts ∙ length-append front rest ∙ ap (λ (n : ℕ). n + length rest) (length-zeros v front s)
    ∙ ap (λ (n : ℕ). padded_length v + n) (length-all vs rest all) ∙ sym (sum_by-cons padded_length v vs)

any_padding : (vs : List PlainAvp) (b : List ℕ) → SpellsAllWithZeros vs b → SpellsAll vs b
any_padding [] b h = h
any_padding (v ∷ vs) b (front, rest, s, parts, all) = (front, rest, s.spells, parts, any_padding vs rest all)

SpellsAllWithZeros-push : (vs : List PlainAvp) (v : PlainAvp) (b f : List ℕ) → SpellsAllWithZeros vs b → SpellsWithZeros v f → SpellsAllWithZeros (vs ++ v ∷ []) (b ++ f)
SpellsAllWithZeros-push [] v b f h s = (f, [], s, ap (λ (x : List ℕ). x ++ f) h ∙ sym (append-nil f), refl)
SpellsAllWithZeros-push (w ∷ vs) v b f (front, rest, t, parts, all) s =
    (front, rest ++ f, t, ap (λ (x : List ℕ). x ++ f) parts ∙ append_assoc front rest f, SpellsAllWithZeros-push vs v rest f all s)

map-push : {X Y : Type 0} (g : X → Y) (xs : List X) (x : X) → map g (xs ++ x ∷ []) ≡ map g xs ++ g x ∷ []
map-push g [] x = refl
map-push g (y ∷ xs) x = ap (λ (r : List _). g y ∷ r) (map-push g xs x)

-- the bytes that were there, a header and the AVPs so far
pub record IsMade (h : Header) (len : ℕ) (before : List ℕ) (taken : List Avp) (bytes : List ℕ) : Type 0 where
  pub body : List ℕ
  pub parts : bytes ≡ before ++ (header_bytes h len ++ body)
  pub is_head : IsHead h len (header_bytes h len)
  pub all : SpellsAllWithZeros (map plain_avp taken) body

pub made_head : (h : Header) (len : ℕ) (before bytes : List ℕ) (avps : List Avp) → bytes ≡ before ++ header_bytes h len → IsHead h len (header_bytes h len) → IsMade h len before (take 0 avps) bytes
made_head h len before bytes avps is_bytes is_head = record { body = []; parts = is_bytes ∙ ap (λ (f : List ℕ). before ++ f) (sym (append-nil (header_bytes h len))); is_head = is_head; all = refl }

pub made_avp : (h : Header) (len : ℕ) (before : List ℕ) (avps : List Avp) (i : ℕ) (d : Avp) (bytes new : List ℕ) → IsMade h len before (take i avps) bytes → i < length avps
    → new ≡ bytes ++ avp_bytes (plain_avp (get_or avps i d)) → SpellsWithZeros (plain_avp (get_or avps i d)) (avp_bytes (plain_avp (get_or avps i d))) → IsMade h len before (take (i + 1) avps) new
made_avp h len before avps i d bytes new m within is_new spells =
    let v : PlainAvp = plain_avp (get_or avps i d) in
    record {
      body = m.body ++ avp_bytes v;
      parts = is_new ∙ ap (λ (f : List ℕ). f ++ avp_bytes v) m.parts ∙ simp append_assoc;
      is_head = m.is_head;
      all = subst (λ (vs : List PlainAvp). SpellsAllWithZeros vs (m.body ++ avp_bytes v)) (sym (ap (map plain_avp) (take_more avps i d within) ∙ map-push plain_avp (take i avps) (get_or avps i d)))
          (SpellsAllWithZeros-push (map plain_avp (take i avps)) v m.body (avp_bytes v) m.all spells);
    }

pub made_all : (h : Header) (len i : ℕ) (before : List ℕ) (avps : List Avp) (bytes : List ℕ)
    → IsMade h len before (take i avps) bytes → length avps ≤ i → len ≡ 20 + sum_by padded_length (map plain_avp avps)
    → (b : List ℕ) × MessageWithZeros h (map plain_avp avps) b × (bytes ≡ before ++ b)
made_all h len i before avps bytes m end is_len =
    let written : List ℕ = header_bytes h len ++ m.body in
    let all : SpellsAllWithZeros (map plain_avp avps) m.body = subst (λ (xs : List Avp). SpellsAllWithZeros (map plain_avp xs) m.body) (take_all i avps end) m.all in
    let size : len ≡ length written = is_len ∙ ap (λ (n : ℕ). 20 + n) (sym (length-all (map plain_avp avps) m.body all)) ∙ sym (length-append (header_bytes h len) m.body) in
    let message : MessageWithZeros h (map plain_avp avps) written = record {
      message = record {
        head = header_bytes h len;
        body = m.body;
        parts = refl;
        is_head = subst (λ (n : ℕ). IsHead h n (header_bytes h len)) size m.is_head;
        is_body = any_padding (map plain_avp avps) m.body all;
      };
      zeros = all;
    } in
    (written, message, m.parts)

-- the next AVP has room where the room is for all, and what is filled then
pub next_room : (xs : List Avp) (i : ℕ) (d : Avp) (before filled room total n : ℕ) → filled ≡ before + 20 + sum_by (λ x. padded_length (plain_avp x)) (take i xs) → before + total ≤ room
    → total ≡ 20 + sum_by padded_length (map plain_avp xs) → i < length xs → n ≡ avp_length (plain_avp (get_or xs i d)) → filled + (n + 3) / 4 * 4 ≤ room
next_room xs i d before filled room total n is_filled fits is_total within is_n =
    let part : (n + 3) / 4 * 4 ≡ padded_length (plain_avp (get_or xs i d)) = ap (λ (k : ℕ). (k + 3) / 4 * 4) is_n in
    omega (
      arith,
      part,
      is_filled,
      fits,
      is_total,
      sum_by_more (λ (x : Avp). padded_length (plain_avp x)) xs i d within,
      sum_by-take-le (λ (x : Avp). padded_length (plain_avp x)) xs (i + 1),
      sum_by-map padded_length plain_avp xs,
    )

pub next_filled : (xs : List Avp) (i : ℕ) (d : Avp) (before filled new n : ℕ) → filled ≡ before + 20 + sum_by (λ x. padded_length (plain_avp x)) (take i xs) → i < length xs
    → n ≡ avp_length (plain_avp (get_or xs i d)) → new ≡ filled + (n + 3) / 4 * 4 → new ≡ before + 20 + sum_by (λ x. padded_length (plain_avp x)) (take (i + 1) xs)
next_filled xs i d before filled new n is_filled within is_n is_new =
    let part : (n + 3) / 4 * 4 ≡ padded_length (plain_avp (get_or xs i d)) = ap (λ (k : ℕ). (k + 3) / 4 * 4) is_n in
    omega (arith, part, is_filled, is_new, sum_by_more (λ (x : Avp). padded_length (plain_avp x)) xs i d within)
