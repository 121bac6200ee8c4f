-- Headers whose P flag and application are fixed, as bytes.
use Rattle.std.proofs.Common.{◌≡◌, ◌≢◌, ℕ, zero, suc, ◌+◌, ◌-◌, ◌*◌, ◌%◌, ◌^◌, ◌<◌, Bool, true, false, bit_and, bit_xor, List, [], ◌∷◌, ◌++◌, length, take, drop, refl, sym, ap, subst, ◌∙◌, append_assoc, arith}
use Rattle.std.specs.Prelude.{◌↔◌, ◌==◌, ◌&&◌, IsTrue}
use Rattle.std.specs.Int.{IsBitSet, bit_at, w32, to_be_bytes, from_be_bytes}
use Rattle.std.proofs.Math.Seq.{take-append_seam}
use Rattle.std.proofs.lemmas.Nat.{and_xor_apart, pow_apart, from_be_bytes-to_be_bytes_4}
use Rattle.std.proofs.lemmas.Nat.Bits.{and_pow, bit_at-lt, bit_at-pow_same, bit_at_xor}
use Rattle.std.proofs.lemmas.Bool.{and_parts, eqb-true}
use Rattle.std.proofs.lemmas.List.{length-append, length-drop, take_all}
use Rattle.dia_wire.specs.declared.Header.{Header}
use Rattle.dia_wire.specs.Number.{number, IsField}
use Rattle.dia_wire.specs.Wire.{PlainAvp, HasP, IsHead, IsMessage}
use Rattle.dia_wire.proofs.OneHeader.{one_header}
use Rattle.dia_book.specs.declared.Pxy.{Pxy}
use Rattle.dia_book.specs.declared.Pxy.TheVariants as pxy
use Rattle.dia_valid.specs.Valid.{PHolds}
use Rattle.dia_breaking.specs.Headers.{allows}
use Rattle.dia_breaking.proofs.TooLong.{head_takes}

-- ---- the other P flag

-- the other bits stay
pub kept_bit : (flags k : ℕ) → k ≢ 6 → IsBitSet (bit_xor flags 64) k ↔ IsBitSet flags k
kept_bit flags k other =
    let same = and_xor_apart (2 ^ k) flags 64 (pow_apart 6 k (λ e. other (sym e))) in
    (λ set none. set (same ∙ none), λ set none. set (sym same ∙ none))

module _ (flags : ℕ) where
  abbrev Turns : ℕ → ℕ → Type 0
  Turns old new = (bit_and flags 64 ≡ old * 64) × (bit_and (bit_xor flags 64) 64 ≡ new * 64) × (new ≡ (old + 1) % 2)

  turns : Turns (bit_at flags 6) (bit_at (bit_xor flags 64) 6)
  turns = (and_pow flags 6, and_pow (bit_xor flags 64) 6, bit_at_xor flags 64 6 ∙ ap (λ (n : ℕ). (bit_at flags 6 + n) % 2) (bit_at-pow_same 6))

  cleared : (old new : ℕ) → old < 2 → Turns old new → HasP flags → ¬ HasP (bit_xor flags 64)
  cleared old new less (before, after, turned) has = λ still.
      let none : bit_and (bit_xor flags 64) 64 ≡ 0 = by old less before turned in
      still none
    where
      by : (old : ℕ) → old < 2 → bit_and flags 64 ≡ old * 64 → new ≡ (old + 1) % 2 → bit_and (bit_xor flags 64) 64 ≡ 0
      by zero less before turned = absurd (has (let e : bit_and flags 64 ≡ 0 = omega (arith, before) in e))
      by (suc zero) less before turned = let e = after in omega (arith, e, turned)
      by (suc (suc n)) less before turned = absurd (omega (arith, less))

  set : (old new : ℕ) → old < 2 → Turns old new → (¬ HasP flags) → HasP (bit_xor flags 64)
  set old new less (before, after, turned) none = λ still. by old less before turned still
    where
      by : (old : ℕ) → old < 2 → bit_and flags 64 ≡ old * 64 → new ≡ (old + 1) % 2 → bit_and (bit_xor flags 64) 64 ≡ 0 → ⊥
      by zero less before turned still = let e = after in absurd (omega (arith, e, turned, still))
      by (suc zero) less before turned still = none (λ clear. let e : bit_and flags 64 ≡ 0 = clear in absurd (omega (arith, before, e)))
      by (suc (suc n)) less before turned still = absurd (omega (arith, less))

  -- a rule for P holds of these flags, or of those with the other P flag
  pub p_kept : (p : Pxy) (b : Bool) → (IsTrue b ↔ HasP flags) → allows p b ≡ true → PHolds p flags
  p_kept pxy.Clear true iff may = absurd (let e : false ≡ true = may in cc)
  p_kept pxy.Clear false iff may = λ has. absurd (let e : false ≡ true = iff.1 has in cc)
  p_kept pxy.Set true iff may = iff.0 refl
  p_kept pxy.Set false iff may = absurd (let e : false ≡ true = may in cc)
  p_kept pxy.Either b iff may = tt

  pub p_turned : (p : Pxy) (b : Bool) → (IsTrue b ↔ HasP flags) → allows p b ≡ false → PHolds p (bit_xor flags 64)
  p_turned pxy.Clear true iff none = cleared (bit_at flags 6) (bit_at (bit_xor flags 64) 6) (bit_at-lt flags 6) turns (iff.0 refl)
  p_turned pxy.Clear false iff none = absurd (let e : true ≡ false = none in cc)
  p_turned pxy.Set true iff none = absurd (let e : true ≡ false = none in cc)
  p_turned pxy.Set false iff none =
      set (bit_at flags 6) (bit_at (bit_xor flags 64) 6) (bit_at-lt flags 6) turns (λ has. absurd (let e : false ≡ true = iff.1 has in cc))
  p_turned pxy.Either b iff none = absurd (let e : true ≡ false = none in cc)

-- ---- headers

pub header_same : (a b : Header) → ((a.flags == b.flags) && ((a.code == b.code) && ((a.app == b.app) && ((a.hop == b.hop) && (a.e2e == b.e2e))))) ≡ true → a ≡ b
header_same a b e =
    let one = and_parts (a.flags == b.flags) ((a.code == b.code) && ((a.app == b.app) && ((a.hop == b.hop) && (a.e2e == b.e2e)))) e in
    let two = and_parts (a.code == b.code) ((a.app == b.app) && ((a.hop == b.hop) && (a.e2e == b.e2e))) one.1 in
    let three = and_parts (a.app == b.app) ((a.hop == b.hop) && (a.e2e == b.e2e)) two.1 in
    let four = and_parts (a.hop == b.hop) (a.e2e == b.e2e) three.1 in
    let flags = eqb-true a.flags b.flags one.0 in
    let code = eqb-true a.code b.code two.0 in
    let app = eqb-true a.app b.app three.0 in
    let hop = eqb-true a.hop b.hop four.0 in
    let e2e = eqb-true a.e2e b.e2e four.1 in
    λ i. record { flags = flags i; code = code i; app = app i; hop = hop i; e2e = e2e i }

-- ---- bytes

record Three (xs : List ℕ) : Type 0 where
  a : ℕ
  b : ℕ
  c : ℕ
  are : xs ≡ a ∷ b ∷ c ∷ []

three : (xs : List ℕ) → length xs ≡ 3 → Three xs
three [] e = absurd (omega (arith, e))
three (a ∷ []) e = absurd (omega (arith, e))
three (a ∷ b ∷ []) e = absurd (omega (arith, e))
three (a ∷ b ∷ c ∷ []) e = record { a = a; b = b; c = c; are = refl }
three (a ∷ b ∷ c ∷ d ∷ xs) e = absurd (let f : suc (suc (suc (suc (length xs)))) ≡ 3 = e in omega (arith, f))

record Four (xs : List ℕ) : Type 0 where
  a : ℕ
  b : ℕ
  c : ℕ
  d : ℕ
  are : xs ≡ a ∷ b ∷ c ∷ d ∷ []

four : (xs : List ℕ) → length xs ≡ 4 → Four xs
four [] e = absurd (omega (arith, e))
four (a ∷ []) e = absurd (omega (arith, e))
four (a ∷ b ∷ []) e = absurd (omega (arith, e))
four (a ∷ b ∷ c ∷ []) e = absurd (omega (arith, e))
four (a ∷ b ∷ c ∷ d ∷ []) e = record { a = a; b = b; c = c; d = d; are = refl }
four (a ∷ b ∷ c ∷ d ∷ x ∷ xs) e = absurd (let f : suc (suc (suc (suc (suc (length xs))))) ≡ 4 = e in omega (arith, f))

-- the bytes with other Command Flags and another application
abbrev pub with_parts : List ℕ → ℕ → List ℕ → List ℕ
with_parts bytes flags app = (((take 4 bytes ++ (flags ∷ [])) ++ take 3 (drop 5 bytes)) ++ app) ++ drop 12 bytes

pub parts_written : (bytes app : List ℕ) (flags : ℕ) (none first second third fourth last : List ℕ) → none ≡ [] → first ≡ none ++ take 4 bytes → second ≡ first ++ flags ∷ []
    → third ≡ second ++ take 3 (drop 5 bytes) → fourth ≡ third ++ app → last ≡ fourth ++ take (length bytes - 12) (drop 12 bytes) → last ≡ with_parts bytes flags app
parts_written bytes app flags none first second third fourth last none_is first_is second_is third_is fourth_is last_is =
    last_is ∙ ap (λ (ys : List ℕ). fourth ++ ys) (take_all (length bytes - 12) (drop 12 bytes) (let e = length-drop 12 bytes in omega (arith, e)))
    ∙ ap (λ (xs : List ℕ). xs ++ drop 12 bytes) (fourth_is ∙ ap (λ (xs : List ℕ). xs ++ app)
    (third_is ∙ ap (λ (xs : List ℕ). xs ++ take 3 (drop 5 bytes)) (second_is ∙ ap (λ (xs : List ℕ). xs ++ flags ∷ []) (first_is ∙ ap (λ (xs : List ℕ). xs ++ take 4 bytes) none_is))))

-- those of a header are the header's with these parts
corrected_parts : (len code app hop e2e body new : List ℕ) (flags other : ℕ) → Three len → Three code → Four app
    → with_parts (((1 ∷ len) ++ (flags ∷ code) ++ app ++ hop ++ e2e) ++ body) other new ≡ ((1 ∷ len) ++ (other ∷ code) ++ new ++ hop ++ e2e) ++ body
corrected_parts len code app hop e2e body new flags other x y z = rw (x.are, y.are, z.are) (ap (λ rest. 1 ∷ x.a ∷ x.b ∷ x.c ∷ other ∷ y.a ∷ y.b ∷ y.c ∷ rest) together)
  where
    together : new ++ ((hop ++ e2e) ++ body) ≡ ((new ++ hop) ++ e2e) ++ body
    together = sym (append_assoc new (hop ++ e2e) body) ∙ ap (λ front. front ++ body) (sym (append_assoc new hop e2e))

pub corrected_message : (old new : Header) (avps : List PlainAvp) (bytes app : List ℕ) → new.code ≡ old.code → new.hop ≡ old.hop → new.e2e ≡ old.e2e → IsField 4 new.app app → IsMessage old avps bytes
    → IsMessage new avps (with_parts bytes new.flags app)
corrected_message old new avps bytes app code hop e2e field m =
    record { head = front; body = m.body; parts = is; is_head = subst (λ n. IsHead new n front) (sym size) is_head; is_body = m.is_body }
  where
    front : List ℕ
    front = (1 ∷ m.is_head.len) ++ (new.flags ∷ m.is_head.code) ++ app ++ m.is_head.hop ++ m.is_head.e2e

    is_head : IsHead new (length bytes) front
    is_head = record {
      len = m.is_head.len;
      code = m.is_head.code;
      app = app;
      hop = m.is_head.hop;
      e2e = m.is_head.e2e;
      parts = refl;
      length_field = m.is_head.length_field;
      code_field = subst (λ n. IsField 3 n m.is_head.code) (sym code) m.is_head.code_field;
      app_field = field;
      hop_field = subst (λ n. IsField 4 n m.is_head.hop) (sym hop) m.is_head.hop_field;
      e2e_field = subst (λ n. IsField 4 n m.is_head.e2e) (sym e2e) m.is_head.e2e_field;
    }

    is : with_parts bytes new.flags app ≡ front ++ m.body
    is = ap (λ (xs : List ℕ). with_parts xs new.flags app) (m.parts ∙ ap (λ (xs : List ℕ). xs ++ m.body) m.is_head.parts)
        ∙ corrected_parts m.is_head.len m.is_head.code m.is_head.app m.is_head.hop m.is_head.e2e m.body app old.flags new.flags
        (three m.is_head.len m.is_head.length_field.width) (three m.is_head.code m.is_head.code_field.width) (four m.is_head.app m.is_head.app_field.width)

    size : length (with_parts bytes new.flags app) ≡ length bytes
    size =
        let mine = ap length is ∙ length-append front m.body in
        let other = ap length m.parts ∙ length-append m.head m.body in
        let first = head_takes new (length bytes) front is_head in
        let second = head_takes old (length bytes) m.head m.is_head in
        omega (arith, mine, other, first, second)

-- a message has one header
pub header_is : (h k : Header) (avps : List PlainAvp) (bytes : List ℕ) → IsMessage h avps bytes → IsHead k (length bytes) (take 20 bytes) → k ≡ h
header_is h k avps bytes m found =
    let front : take 20 bytes ≡ m.head =
    ap (take 20) m.parts ∙ ap (λ (n : ℕ). take n (m.head ++ m.body)) (sym (head_takes h (length bytes) m.head m.is_head)) ∙ take-append_seam m.head m.body in
    (one_header k h (length bytes) (length bytes) m.head (subst (IsHead k (length bytes)) front found) m.is_head).0

-- the bytes of a number of 32 bits
number_of : (xs : List ℕ) → Four xs → number xs ≡ from_be_bytes w32 xs
number_of xs x = rw x.are (omega arith)

pub app_field : (n : ℕ) → n < 2 ^ 32 → IsField 4 n (to_be_bytes w32 n)
app_field n small = record { width = refl; value = number_of (to_be_bytes w32 n) (four (to_be_bytes w32 n) refl) ∙ from_be_bytes-to_be_bytes_4 n small }
