-- The bytes of an AVP spell it.
use Rattle.std.proofs.Common.{◌≡◌, ℕ, zero, suc, ◌+◌, ◌-◌, ◌%◌, ◌^◌, ◌<◌, Bool, true, false, List, [], ◌∷◌, ◌++◌, length, Option, Some, None, refl, sym, ap, subst, ◌∙◌, arith, length-append}
use Rattle.std.specs.Prelude.{◌↔◌, if◌then◌else◌, unwrap_or, IsSome}
use Rattle.std.specs.Int.{w32, to_be_bytes}
use Rattle.std.proofs.lemmas.Bool.{ne_eqb}
use Rattle.dia_wire.specs.declared.Key.{Key}
use Rattle.dia_wire.specs.Number.{number, IsField}
use Rattle.dia_wire.specs.Wire.{PlainAvp, HasVendorFlag, IsVendorField, Spells, head_length, key_of}
use Rattle.dia_wire.specs.Written.{padding}
use Rattle.dia_wire.proofs.Written.{padding_length}
use Rattle.dia_breaking_shortest.specs.Bytes.{avp_bytes, avp_flags, head_bytes, length_bytes, vendor_bytes}
use Rattle.dia_breaking_shortest.specs.Floors.{IsSpellable, padded, shortest_head, vendor_field}

-- ---- fields

four : (n : ℕ) → n < 2 ^ 32 → number (to_be_bytes w32 n) ≡ n
four n small = omega (arith, small)

three : (n : ℕ) → n < 2 ^ 24 → number (length_bytes n) ≡ n
three n small = omega (arith, small)

-- the Vendor-ID that the bytes of a vendor say
abbrev pub said_vendor : ℕ → Option ℕ
said_vendor zero = None
said_vendor (suc n) = Some (number (to_be_bytes w32 (suc n)))

head_same : (n : ℕ) → head_length (said_vendor n) ≡ head_length (vendor_field n)
head_same zero = refl
head_same (suc n) = refl

vendor_there : (n : ℕ) → vendor_bytes (suc n) ≡ to_be_bytes w32 (suc n)
vendor_there n = ap (λ (b : Bool). if b then [] else to_be_bytes w32 (suc n)) (ne_eqb (suc n) 0 (λ e. omega (arith, e)))

pub flags_there : (n : ℕ) (m : Bool) → avp_flags (suc n) m ≡ (if m then 192 else 128)
flags_there n m = ap (λ (b : Bool). if b then (if m then 64 else 0) else (if m then 192 else 128)) (ne_eqb (suc n) 0 (λ e. omega (arith, e)))

vendor_says : (n : ℕ) → IsVendorField (said_vendor n) (vendor_bytes n)
vendor_says zero = refl
vendor_says (suc n) = subst (λ (bs : List ℕ). IsField 4 (number (to_be_bytes w32 (suc n))) bs) (sym (vendor_there n)) (record { width = refl; value = refl })

vendor_is : (n : ℕ) → n < 2 ^ 32 → unwrap_or (said_vendor n) 0 ≡ n
vendor_is zero small = refl
vendor_is (suc n) small = four (suc n) small

v_agrees : (n : ℕ) (m : Bool) → HasVendorFlag (avp_flags n m) ↔ IsSome (said_vendor n)
v_agrees zero true = (λ h. absurd (h refl), λ s. absurd (let p : false ≡ true = s in cc))
v_agrees zero false = (λ h. absurd (h refl), λ s. absurd (let p : false ≡ true = s in cc))
v_agrees (suc n) m = subst (λ (x : ℕ). HasVendorFlag x ↔ IsSome (said_vendor (suc n))) (sym (flags_there n m)) (by m)
  where
    by : (m : Bool) → HasVendorFlag (if m then 192 else 128) ↔ IsSome (said_vendor (suc n))
    by true = (λ h. refl, λ s e. let p : 128 ≡ 0 = e in omega (arith, p))
    by false = (λ h. refl, λ s e. let p : 128 ≡ 0 = e in omega (arith, p))

-- ---- lengths

vendor_size : (n : ℕ) → 8 + length (vendor_bytes n) ≡ head_length (vendor_field n)
vendor_size zero = refl
vendor_size (suc n) = ap (λ (bs : List ℕ). 8 + length bs) (vendor_there n)

pub head_size : (key : Key) (m : Bool) (size : ℕ) → length (head_bytes key m size) ≡ shortest_head key
head_size key m size =
    let all = length-append (to_be_bytes w32 key.code ++ (avp_flags key.vendor m ∷ length_bytes size)) (vendor_bytes key.vendor) in
    let own = vendor_size key.vendor in
    omega (arith, all, own)

either_head : (n len : ℕ) → head_length (vendor_field n) + len + (4 - len % 4) % 4 ≡ padded (head_length (vendor_field n) + len)
either_head zero len = omega arith
either_head (suc n) len = omega arith

pub avp_size : (key : Key) (m : Bool) (content : List ℕ) → length (avp_bytes key m content) ≡ padded (shortest_head key + length content)
avp_size key m content =
    let head = head_bytes key m (shortest_head key + length content) in
    let all = length-append (head ++ content) (padding (length content)) in
    let front = length-append head content in
    let own = head_size key m (shortest_head key + length content) in
    let following = padding_length (length content) in
    let sum = either_head key.vendor (length content) in
    omega (arith, all, front, own, following, sum)

-- ---- an AVP

-- what the bytes of an AVP of the key say: of a key that fields can say, one of this key
abbrev pub said_avp : Key → Bool → List ℕ → PlainAvp
said_avp key m content = record { code = number (to_be_bytes w32 key.code); flags = avp_flags key.vendor m; vendor = said_vendor key.vendor; bytes = content }

pub avp_spelled : (key : Key) (m : Bool) (content : List ℕ) → shortest_head key + length content < 2 ^ 24 → Spells (said_avp key m content) (avp_bytes key m content)
avp_spelled key m content small = record {
  code = to_be_bytes w32 key.code;
  len = length_bytes (shortest_head key + length content);
  vendor = vendor_bytes key.vendor;
  padding = padding (length content);
  parts = refl;
  code_field = record { width = refl; value = refl };
  length_field = record {
    width = refl;
    value = three (shortest_head key + length content) small ∙ ap (λ (n : ℕ). n + length content) (sym (head_same key.vendor));
  };
  vendor_field = vendor_says key.vendor;
  agrees = v_agrees key.vendor m;
  short_padding = let following = padding_length (length content) in omega (arith, following);
  aligned = let size = avp_size key m content in omega (arith, size);
}

pub said_key : (key : Key) (m : Bool) (content : List ℕ) → IsSpellable key → key_of (said_avp key m content) ≡ key
said_key key m content small =
    ap (λ (code : ℕ). let k : Key = record { code = code; vendor = unwrap_or (said_vendor key.vendor) 0 } in k) (four key.code small.0)
    ∙ ap (λ (vendor : ℕ). let k : Key = record { code = key.code; vendor = vendor } in k) (vendor_is key.vendor small.1)
