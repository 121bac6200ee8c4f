-- AVPs that a message has room for are those of a message.
use Rattle.std.proofs.Common.{◌≡◌, ℕ, zero, suc, ◌+◌, ◌-◌, ◌<◌, ◌≤◌, ◌^◌, take, List, [], ◌∷◌, ◌++◌, length, Option, None, inl, inr, refl, sym, ap, subst, ◌∙◌, arith}
use Rattle.std.specs.Prelude.{◌⊎◌, ◌%◌, sum_by}
use Rattle.std.specs.List.{AllByRecursion}
use Rattle.std.proofs.lemmas.Bool.{cases_lt}
use Rattle.std.proofs.lemmas.List.{length-append}
use Rattle.std.proofs.lemmas.List.Sums.{sum_by-cons}
use Rattle.byteorder.specs.Endian.{big_bytes}
use Rattle.dia_wire.specs.declared.Header.{Header}
use Rattle.dia_wire.specs.Wire.{PlainAvp, Agrees, IsHead, IsTooLong, IsVendorField, MessageWithZeros, SpellsAll, SpellsAllWithZeros, SpellsWithZeros, avp_length, padded_length}
use Rattle.dia_wire.specs.Number.{IsField}
use Rattle.dia_wire.specs.Written.{avp_bytes, padding, vendor_bytes}
use Rattle.dia_wire.proofs.Spelling.{opened}
use Rattle.dia_wire.proofs.Written.{avp_spelled, four}
use Rattle.dia_valid.proofs.Members.{all_append}
use Rattle.dia_answer.specs.Requests.{AreBytes}
use Rattle.dia_answer.specs.OwnErrors.{HoldsBytes}
use Rattle.dia_answer.proofs.Messages.{head_size}
use Rattle.dia_answer.proofs.Writings.{bytes_cases}

-- an AVP without a vendor that can be spelled
abbrev pub IsPlain : PlainAvp → Type 0
IsPlain v = Agrees v × (v.vendor ≡ None) × (v.code < 2 ^ 32)

abbrev body_of : List PlainAvp → List ℕ
body_of [] = []
body_of (v ∷ vs) = avp_bytes v ++ body_of vs

one_spelled : (v : PlainAvp) → IsPlain v → avp_length v < 2 ^ 24 → SpellsWithZeros v (avp_bytes v)
one_spelled v (agrees, none, code) short = avp_spelled v agrees short (four v.code code) (subst (λ (o : Option ℕ). IsVendorField o (vendor_bytes o)) (sym none) refl)

all_spelled : (vs : List PlainAvp) → AllByRecursion IsPlain vs → 20 + sum_by padded_length vs < 2 ^ 24 → SpellsAllWithZeros vs (body_of vs)
all_spelled [] are short = refl
all_spelled (v ∷ vs) are short =
    let sum = sum_by-cons padded_length v vs in
    (avp_bytes v, body_of vs, one_spelled v are.0 (omega (arith, sum, short)), refl, all_spelled vs are.1 (omega (arith, sum, short)))

size : (vs : List PlainAvp) (b : List ℕ) → SpellsAllWithZeros vs b → length b ≡ sum_by padded_length vs
size [] b h = ap length h
size (v ∷ vs) b (front, rest, s, parts, all) =
    omega (arith, ap length parts, length-append front rest, (opened v front [] s.spells).front_length, size vs rest all, sum_by-cons padded_length v vs)

without_zeros : (vs : List PlainAvp) (b : List ℕ) → SpellsAllWithZeros vs b → SpellsAll vs b
without_zeros [] b h = h
without_zeros (v ∷ vs) b (front, rest, s, parts, all) = (front, rest, s.spells, parts, without_zeros vs rest all)

-- ---- bytes

three_bytes_are : (n : ℕ) → AreBytes (big_bytes 3 n)
three_bytes_are n = (omega arith, (omega arith, (omega arith, tt)))

four_bytes_are : (n : ℕ) → AreBytes (big_bytes 4 n)
four_bytes_are n = (omega arith, (omega arith, (omega arith, (omega arith, tt))))

taken_are : (k : ℕ) (bytes : List ℕ) → AreBytes bytes → AreBytes (take k bytes)
taken_are zero bytes are = tt
taken_are (suc k) [] are = tt
taken_are (suc k) (b ∷ bytes) are = (are.0, taken_are k bytes are.1)

joined_are : (a b : List ℕ) → AreBytes a → AreBytes b → AreBytes (a ++ b)
joined_are a b = all_append (λ (byte : ℕ). byte < 256) a b

avp_are : (v : PlainAvp) → IsPlain v → HoldsBytes v → AreBytes (avp_bytes v)
avp_are v (agrees, none, code) (flags, data_are) =
    let front : List ℕ = big_bytes 4 v.code ++ (v.flags ∷ big_bytes 3 (avp_length v)) in
    let front_are = joined_are (big_bytes 4 v.code) (v.flags ∷ big_bytes 3 (avp_length v)) (four_bytes_are v.code) (flags, three_bytes_are (avp_length v)) in
    let vendor_are : AreBytes (vendor_bytes v.vendor) = subst (λ (o : Option ℕ). AreBytes (vendor_bytes o)) (sym none) tt in
    let zeros : AreBytes (0 ∷ 0 ∷ 0 ∷ []) = (omega arith, (omega arith, (omega arith, tt))) in
    let to_vendor = joined_are front (vendor_bytes v.vendor) front_are vendor_are in
    let to_data = joined_are (front ++ vendor_bytes v.vendor) v.bytes to_vendor data_are in
    joined_are (front ++ vendor_bytes v.vendor ++ v.bytes) (padding (avp_length v)) to_data (taken_are ((4 - avp_length v % 4) % 4) (0 ∷ 0 ∷ 0 ∷ []) zeros)

body_are : (vs : List PlainAvp) → AllByRecursion IsPlain vs → AllByRecursion HoldsBytes vs → AreBytes (body_of vs)
body_are [] are hold = tt
body_are (v ∷ vs) are hold = joined_are (avp_bytes v) (body_of vs) (avp_are v are.0 hold.0) (body_are vs are.1 hold.1)

-- ---- the header

three : (n : ℕ) → n < 2 ^ 24 → IsField 3 n (big_bytes 3 n)
three n small = record { width = refl; value = omega (arith, small) }

-- the fields of a header with another Message Length
other_length : (h : Header) (n len : ℕ) (head : List ℕ) → IsHead h n head → AreBytes head → len < 2 ^ 24 → (other : List ℕ) × IsHead h len other × AreBytes other
other_length h n len head is are short =
    let all = subst AreBytes is.parts are in
    let to_hop = bytes_cases ((1 ∷ is.len) ++ (h.flags ∷ is.code) ++ is.app ++ is.hop) is.e2e all in
    let to_app = bytes_cases ((1 ∷ is.len) ++ (h.flags ∷ is.code) ++ is.app) is.hop to_hop.0 in
    let to_code = bytes_cases ((1 ∷ is.len) ++ (h.flags ∷ is.code)) is.app to_app.0 in
    let code = bytes_cases (1 ∷ is.len) (h.flags ∷ is.code) to_code.0 in
    let front : List ℕ = 1 ∷ big_bytes 3 len in
    let front_are : AreBytes front = (omega arith, three_bytes_are len) in
    let with_code = joined_are front (h.flags ∷ is.code) front_are code.1 in
    let with_app = joined_are (front ++ (h.flags ∷ is.code)) is.app with_code to_code.1 in
    let with_hop = joined_are (front ++ (h.flags ∷ is.code) ++ is.app) is.hop with_app to_app.1 in (
      front ++ (h.flags ∷ is.code) ++ is.app ++ is.hop ++ is.e2e,
      record {
        len = big_bytes 3 len;
        code = is.code;
        app = is.app;
        hop = is.hop;
        e2e = is.e2e;
        parts = refl;
        length_field = three len short;
        code_field = is.code_field;
        app_field = is.app_field;
        hop_field = is.hop_field;
        e2e_field = is.e2e_field;
      },
      joined_are (front ++ (h.flags ∷ is.code) ++ is.app ++ is.hop) is.e2e with_hop to_hop.1,
    )

pub written : (h : Header) (n : ℕ) (head : List ℕ) (vs : List PlainAvp) → IsHead h n head → AreBytes head → AllByRecursion IsPlain vs → AllByRecursion HoldsBytes vs → ¬ IsTooLong vs
    → (bytes : List ℕ) × MessageWithZeros h vs bytes × AreBytes bytes
written h n head vs is head_are are hold room = by (cases_lt (20 + sum_by padded_length vs) (2 ^ 24))
  where
    made : 20 + sum_by padded_length vs < 2 ^ 24 → (bytes : List ℕ) × MessageWithZeros h vs bytes × AreBytes bytes
    made short =
        let all = all_spelled vs are short in
        let long = size vs (body_of vs) all in
        let len = 20 + length (body_of vs) in
        let front = other_length h n len head is head_are (omega (arith, long, short)) in
        let own_head = front.0 in
        let is_long : len ≡ length (own_head ++ body_of vs) = omega (arith, length-append own_head (body_of vs), head_size own_head front.1) in (
          own_head ++ body_of vs,
          record {
            message = record { head = own_head; body = body_of vs; parts = refl; is_head = subst (λ (k : ℕ). IsHead h k own_head) is_long front.1; is_body = without_zeros vs (body_of vs) all };
            zeros = all;
          },
          joined_are own_head (body_of vs) front.2 (body_are vs are hold),
        )

    by : (20 + sum_by padded_length vs < 2 ^ 24) ⊎ (2 ^ 24 ≤ 20 + sum_by padded_length vs) → (bytes : List ℕ) × MessageWithZeros h vs bytes × AreBytes bytes
    by (inl short) = made short
    by (inr long) = absurd (room (inr (omega (arith, long))))
