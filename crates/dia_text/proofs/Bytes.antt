-- Bytes, and the fields that they hold: a number in so many bytes is written in one way.
use Rattle.std.proofs.Common.{◌≡◌, ℕ, zero, suc, ◌+◌, ◌*◌, ◌/◌, ◌^◌, ◌<◌, ◌≤◌, List, [], ◌∷◌, ◌++◌, length, take, drop, Option, Some, None, refl, sym, ap, subst, ◌∙◌, append_assoc, arith}
use Rattle.std.specs.Prelude.{IfSome}
use Rattle.std.specs.Int.{byte_at}
use Rattle.std.specs.List.{AllByRecursion}
use Rattle.std.proofs.Math.Nat.{mul-le-mul_right, pow-succ'}
use Rattle.std.proofs.lemmas.Nat.{div-mul-add}
use Rattle.std.proofs.lemmas.List.{append-nil, length-append, take_all, drop_at}
use Rattle.byteorder.specs.Endian.{big_from, big_bytes}
use Rattle.byteorder.specs.Numbers.{big_number-reads_back, length-bytes_high_first}
use Rattle.dia_wire.specs.declared.Header.{Header}
use Rattle.dia_wire.specs.Number.{number, IsField}
use Rattle.dia_wire.specs.Wire.{PlainAvp, Spells, IsVendorField, IsHead, head_length, avp_length}
use Rattle.dia_wire.specs.Written.{vendor_bytes, header_bytes}
use Rattle.dia_wire.proofs.Fields.{big_from-number}
use Rattle.dia_text.specs.declared.line.Head.{Head}
use Rattle.dia_text.specs.Drafts.{front_bytes}
use Rattle.dia_text.specs.LineTexts.{code_at}
use Rattle.dia_text.specs.TextOf.{after_data}

abbrev pub AreBytes : List ℕ → Type 0
AreBytes bytes = AllByRecursion (λ (b : ℕ). b < 256) bytes

pub bytes_split : (a b : List ℕ) → AreBytes (a ++ b) → AreBytes a × AreBytes b
bytes_split [] b h = (tt, h)
bytes_split (x ∷ a) b (first, rest) = let both = bytes_split a b rest in ((first, both.0), both.1)

pub bytes_drop : (n : ℕ) (a : List ℕ) → AreBytes a → AreBytes (drop n a)
bytes_drop zero a h = h
bytes_drop (suc n) [] h = tt
bytes_drop (suc n) (x ∷ a) (first, rest) = bytes_drop n a rest

pub bytes_take : (n : ℕ) (a : List ℕ) → AreBytes a → AreBytes (take n a)
bytes_take zero a h = tt
bytes_take (suc n) [] h = tt
bytes_take (suc n) (x ∷ a) (first, rest) = (first, bytes_take n a rest)

-- ---- numbers

pub number-lt : (bs : List ℕ) → AreBytes bs → number bs < 256 ^ length bs
number-lt [] h = omega arith
number-lt (b ∷ bs) (first, rest) =
    let less = number-lt bs rest in
    let top : b * 256 ^ length bs ≤ 255 * 256 ^ length bs = mul-le-mul_right (256 ^ length bs) (omega (arith, first)) in
    rw (pow-succ' 256 (length bs)) (omega (arith, less, top))

one_list : (a b : List ℕ) → length a ≡ length b → AreBytes a → AreBytes b → number a ≡ number b → a ≡ b
one_list [] [] same h k e = refl
one_list [] (y ∷ b) same h k e = absurd (omega (arith, same))
one_list (x ∷ a) [] same h k e = absurd (omega (arith, same))
one_list (x ∷ a) (y ∷ b) same (h, hs) (k, ks) e =
    let long : length a ≡ length b = omega (arith, same) in
    let less = number-lt a hs in
    let less' : number b < 256 ^ length a = subst (λ (n : ℕ). number b < 256 ^ n) (sym long) (number-lt b ks) in
    let sums : x * 256 ^ length a + number a ≡ y * 256 ^ length a + number b = e ∙ ap (λ (n : ℕ). y * 256 ^ n + number b) (sym long) in
    let top : x ≡ y = sym (div-mul-add x (256 ^ length a) (number a) less) ∙ ap (λ (n : ℕ). n / 256 ^ length a) sums ∙ div-mul-add y (256 ^ length a) (number b) less' in
    let low : x * 256 ^ length a + number a ≡ x * 256 ^ length a + number b = sums ∙ ap (λ (n : ℕ). n * 256 ^ length a + number b) (sym top) in
    let rest : number a ≡ number b = omega (arith, low) in
    ap (λ (t : List ℕ). x ∷ t) (one_list a b long hs ks rest) ∙ ap (λ (n : ℕ). n ∷ b) top

byte_at-lt : (k x : ℕ) → byte_at k x < 256
byte_at-lt zero x = omega arith
byte_at-lt (suc k) x = omega arith

big_bytes_are : (n x : ℕ) → AreBytes (big_bytes n x)
big_bytes_are zero x = tt
big_bytes_are (suc n) x = (byte_at-lt n x, big_bytes_are n x)

number_of_big : (n x : ℕ) → x < 256 ^ n → number (big_bytes n x) ≡ x
number_of_big n x small =
    let width = length-bytes_high_first n x in
    ap number (sym (take_all n (big_bytes n x) (omega (arith, width)))) ∙ sym (big_from-number n (big_bytes n x) (omega (arith, width)))
    ∙ ap (λ (f : List ℕ). big_from 0 n f) (sym (append-nil (big_bytes n x))) ∙ big_number-reads_back n x [] small

pub field_small : (n x : ℕ) (bytes : List ℕ) → IsField n x bytes → AreBytes bytes → x < 256 ^ n
field_small n x bytes f h = subst (λ (k : ℕ). x < 256 ^ k) f.width (subst (λ (k : ℕ). k < 256 ^ length bytes) f.value (number-lt bytes h))

pub field_back : (n x : ℕ) (bytes : List ℕ) → IsField n x bytes → AreBytes bytes → bytes ≡ big_bytes n x
field_back n x bytes f h =
    one_list bytes (big_bytes n x) (f.width ∙ sym (length-bytes_high_first n x)) h (big_bytes_are n x) (f.value ∙ sym (number_of_big n x (field_small n x bytes f h)))

pub number_back : (n : ℕ) (bytes : List ℕ) → length bytes ≡ n → AreBytes bytes → big_bytes n (number bytes) ≡ bytes
number_back n bytes width h = sym (field_back n (number bytes) bytes (record { width = width; value = refl }) h)

pub number_small : (n : ℕ) (bytes : List ℕ) → length bytes ≡ n → AreBytes bytes → number bytes < 256 ^ n
number_small n bytes width h = field_small n (number bytes) bytes (record { width = width; value = refl }) h

-- ---- AVPs

-- what the line of an AVP says in front of its data
abbrev pub plain_head : PlainAvp → Head
plain_head v = record { code = code_at v; flags = v.flags; said_length = None }

-- the parts of an AVP that bytes spell
pub record HasParts (v : PlainAvp) (front : List ℕ) : Type 0 where
  pub is : front ≡ front_bytes (plain_head v) (avp_length v) ++ (v.bytes ++ after_data v front)
  pub code : v.code < 2 ^ 32
  pub flags : v.flags < 256
  pub vendor : IfSome v.vendor (λ n. n < 2 ^ 32)
  pub bytes : AreBytes v.bytes
  pub following : AreBytes (after_data v front)
  pub short : length (after_data v front) < 4
  pub len : avp_length v < 2 ^ 24

vendor_width : (o : Option ℕ) (bytes : List ℕ) → IsVendorField o bytes → 8 + length bytes ≡ head_length o
vendor_width None bytes h = rw h refl
vendor_width (Some n) bytes h = rw h.width refl

vendor_back : (o : Option ℕ) (bytes : List ℕ) → IsVendorField o bytes → AreBytes bytes → bytes ≡ vendor_bytes o
vendor_back None bytes f h = f
vendor_back (Some n) bytes f h = field_back 4 n bytes f h

vendor_small : (o : Option ℕ) (bytes : List ℕ) → IsVendorField o bytes → AreBytes bytes → IfSome o (λ n. n < 2 ^ 32)
vendor_small None bytes f h = tt
vendor_small (Some n) bytes f h = omega (arith, field_small 4 n bytes f h)

pub parts_of : (v : PlainAvp) (front : List ℕ) → Spells v front → AreBytes front → HasParts v front
parts_of v front s h =
    let a = bytes_split (s.code ++ (v.flags ∷ s.len) ++ s.vendor ++ v.bytes) s.padding (subst AreBytes s.parts h) in
    let b = bytes_split (s.code ++ (v.flags ∷ s.len) ++ s.vendor) v.bytes a.0 in
    let c = bytes_split (s.code ++ (v.flags ∷ s.len)) s.vendor b.0 in
    let e = bytes_split s.code (v.flags ∷ s.len) c.0 in
    let len_bytes : AreBytes s.len = e.1.1 in
    let is_code = field_back 4 v.code s.code s.code_field e.0 in
    let is_len = field_back 3 (avp_length v) s.len s.length_field len_bytes in
    let is_vendor = vendor_back v.vendor s.vendor s.vendor_field c.1 in
    let size : length (s.code ++ (v.flags ∷ s.len) ++ s.vendor ++ v.bytes) ≡ avp_length v =
    omega (
      arith,
      length-append (s.code ++ (v.flags ∷ s.len) ++ s.vendor) v.bytes,
      length-append (s.code ++ (v.flags ∷ s.len)) s.vendor,
      length-append s.code (v.flags ∷ s.len),
      vendor_width v.vendor s.vendor s.vendor_field,
      s.code_field.width,
      s.length_field.width,
    ) in
    let is_after : after_data v front ≡ s.padding = ap (drop (avp_length v)) s.parts ∙ drop_at (s.code ++ (v.flags ∷ s.len) ++ s.vendor ++ v.bytes) s.padding (avp_length v) size in
    let is_front : s.code ++ (v.flags ∷ s.len) ++ s.vendor ≡ front_bytes (plain_head v) (avp_length v) =
    ap (λ (t : List ℕ). t ++ (v.flags ∷ s.len) ++ s.vendor) is_code ∙ ap (λ (t : List ℕ). big_bytes 4 v.code ++ (v.flags ∷ t) ++ s.vendor) is_len
    ∙ ap (λ (t : List ℕ). big_bytes 4 v.code ++ (v.flags ∷ big_bytes 3 (avp_length v)) ++ t) is_vendor in
    record {
      is = s.parts ∙ append_assoc (s.code ++ (v.flags ∷ s.len) ++ s.vendor) v.bytes s.padding ∙ ap (λ (t : List ℕ). t ++ (v.bytes ++ s.padding)) is_front
          ∙ ap (λ (t : List ℕ). front_bytes (plain_head v) (avp_length v) ++ (v.bytes ++ t)) (sym is_after);
      code = omega (arith, field_small 4 v.code s.code s.code_field e.0);
      flags = e.1.0;
      vendor = vendor_small v.vendor s.vendor s.vendor_field c.1;
      bytes = b.1;
      following = subst AreBytes (sym is_after) a.1;
      short = subst (λ (t : List ℕ). length t < 4) (sym is_after) s.short_padding;
      len = omega (arith, field_small 3 (avp_length v) s.len s.length_field len_bytes);
    }

-- ---- headers

-- the fields of a header that bytes are
pub record HasFields (h : Header) (n : ℕ) (b : List ℕ) : Type 0 where
  pub is : b ≡ header_bytes h n
  pub flags : h.flags < 256
  pub code : h.code < 2 ^ 24
  pub app : h.app < 2 ^ 32
  pub hop : h.hop < 2 ^ 32
  pub e2e : h.e2e < 2 ^ 32
  pub len : n < 2 ^ 24

pub fields_of : (h : Header) (n : ℕ) (b : List ℕ) → IsHead h n b → AreBytes b → HasFields h n b
fields_of h n b s all =
    let p = bytes_split ((1 ∷ s.len) ++ (h.flags ∷ s.code) ++ s.app ++ s.hop) s.e2e (subst AreBytes s.parts all) in
    let q = bytes_split ((1 ∷ s.len) ++ (h.flags ∷ s.code) ++ s.app) s.hop p.0 in
    let r = bytes_split ((1 ∷ s.len) ++ (h.flags ∷ s.code)) s.app q.0 in
    let t = bytes_split (1 ∷ s.len) (h.flags ∷ s.code) r.0 in
    let len_bytes : AreBytes s.len = t.0.1 in
    let code_bytes : AreBytes s.code = t.1.1 in
    record {
      is = s.parts ∙ ap (λ (x : List ℕ). (1 ∷ x) ++ (h.flags ∷ s.code) ++ s.app ++ s.hop ++ s.e2e) (field_back 3 n s.len s.length_field len_bytes)
          ∙ ap (λ (x : List ℕ). (1 ∷ big_bytes 3 n) ++ (h.flags ∷ x) ++ s.app ++ s.hop ++ s.e2e) (field_back 3 h.code s.code s.code_field code_bytes)
          ∙ ap (λ (x : List ℕ). (1 ∷ big_bytes 3 n) ++ (h.flags ∷ big_bytes 3 h.code) ++ x ++ s.hop ++ s.e2e) (field_back 4 h.app s.app s.app_field r.1)
          ∙ ap (λ (x : List ℕ). (1 ∷ big_bytes 3 n) ++ (h.flags ∷ big_bytes 3 h.code) ++ big_bytes 4 h.app ++ x ++ s.e2e) (field_back 4 h.hop s.hop s.hop_field q.1)
          ∙ ap (λ (x : List ℕ). (1 ∷ big_bytes 3 n) ++ (h.flags ∷ big_bytes 3 h.code) ++ big_bytes 4 h.app ++ big_bytes 4 h.hop ++ x) (field_back 4 h.e2e s.e2e s.e2e_field p.1);
      flags = t.1.0;
      code = omega (arith, field_small 3 h.code s.code s.code_field code_bytes);
      app = omega (arith, field_small 4 h.app s.app s.app_field r.1);
      hop = omega (arith, field_small 4 h.hop s.hop s.hop_field q.1);
      e2e = omega (arith, field_small 4 h.e2e s.e2e s.e2e_field p.1);
      len = omega (arith, field_small 3 n s.len s.length_field len_bytes);
    }
