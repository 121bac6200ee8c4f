-- Texts with a colon (58), and texts without one.
use Rattle.std.proofs.Common.{◌≡◌, ◌∙◌, ℕ, ◌+◌, ◌<◌, ◌≤◌, ◌%◌, ◌^◌, Bool, true, false, List, [], ◌∷◌, ◌++◌, drop, get_or, refl, sym, ap, arith}
use Rattle.std.specs.Prelude.{◌&&◌, ◌||◌, ◌==◌, codes, not}
use Rattle.std.specs.Char.{is_ascii_alphabetic, is_ascii_alphanumeric}
use Rattle.std.specs.Fmt.{decimal}
use Rattle.std.specs.List.{list_all, list_any}
use Rattle.std.proofs.lemmas.Bool.{eqb-true}
use Rattle.std.proofs.lemmas.Fmt.{decimal_by_steps, decimal_injective}
use Rattle.std.proofs.lemmas.List.Folds.{list_all-append}
use Rattle.std.specs.Prelude.{IsTrue, nat_le, length}
use Rattle.dia_terms.specs.Limits.{max_name}
use Rattle.dia_terms.specs.Names.{is_name, is_name_run, is_run_byte, same_bytes}
use Rattle.dia_wire.specs.declared.Key.{Key}
use Rattle.dia_names.specs.Names.{IsSmall, key_text}

abbrev pub is_no_colon : ℕ → Bool
is_no_colon c = not (c == 58)

abbrev pub HasNoColon : List ℕ → Type 0
HasNoColon text = list_all is_no_colon text ≡ true

never : {X : Type 0} (b : Bool) → b ≡ true → b ≡ false → X
never b e f = absurd (let bad : true ≡ false = sym e ∙ f in cc)

both : (a b : Bool) → (a && b) ≡ true → (a ≡ true) × (b ≡ true)
both true b e = (refl, e)
both false b e = absurd (let bad : false ≡ true = e in cc)

-- a byte that another test lets in, but not the colon
by_test : (p : ℕ → Bool) → p 58 ≡ false → (c : ℕ) → p c ≡ true → is_no_colon c ≡ true
by_test p none c is = by (c == 58) refl
  where
    by : (b : Bool) → (c == 58) ≡ b → not b ≡ true
    by true e = never (p 58) (ap p (sym (eqb-true c 58 e)) ∙ is) none
    by false e = refl

all_by_test : (p : ℕ → Bool) → p 58 ≡ false → (cs : List ℕ) → list_all p cs ≡ true → HasNoColon cs
all_by_test p none [] all = refl
all_by_test p none (c ∷ cs) all =
    let parts = both (p c) (list_all p cs) all in
    (λ i. by_test p none c parts.0 i && all_by_test p none cs parts.1 i)

-- ---- names

pub name_has_none : (name : List ℕ) → IsTrue (is_name name) → HasNoColon name
name_has_none name is =
    let outer = both (is_name_run name && nat_le (length name) max_name) (not (same_bytes name (codes "AVP"))) is in
    of_run name (both (is_name_run name) (nat_le (length name) max_name) outer.0).0
  where
    of_run : (run : List ℕ) → is_name_run run ≡ true → HasNoColon run
    of_run [] e = absurd (let bad : false ≡ true = e in cc)
    of_run (c ∷ cs) e =
        let first = both (is_ascii_alphanumeric c && list_all is_run_byte cs) (list_any is_ascii_alphabetic (c ∷ cs)) e in
        let second = both (is_ascii_alphanumeric c) (list_all is_run_byte cs) first.0 in
        (λ i. by_test is_ascii_alphanumeric refl c second.0 i && all_by_test is_run_byte refl cs second.1 i)

-- ---- numbers

digit_has_none : (m : ℕ) → m < 10 → HasNoColon ((48 + m) ∷ [])
digit_has_none m less = ap (λ (b : Bool). b && true) (by (48 + m == 58) refl)
  where
    by : (b : Bool) → (48 + m == 58) ≡ b → not b ≡ true
    by true e = absurd (let same = eqb-true (48 + m) 58 e in omega (arith, less, same))
    by false e = refl

decimal_has_none : (n : ℕ) → n < 2 ^ 64 → HasNoColon (decimal n)
decimal_has_none = decimal_by_steps (λ n ds. HasNoColon ds) (λ n less. digit_has_none n less)
    (λ n ds more ih. list_all-append is_no_colon ds ((48 + n % 10) ∷ []) ∙ (λ i. ih i && digit_has_none (n % 10) (omega arith) i))

-- ---- a colon between two texts

-- where neither text in front of the colon has one, both are the same, and so is what follows
pub split_at_colon : (ds es r s : List ℕ) → HasNoColon ds → HasNoColon es → ds ++ 58 ∷ r ≡ es ++ 58 ∷ s → (ds ≡ es) × (r ≡ s)
split_at_colon [] [] r s first second e = (refl, ap (drop 1) e)
split_at_colon [] (c ∷ es) r s first second e =
    let same : 58 ≡ c = ap (λ (t : List ℕ). get_or t 0 0) e in
    never (is_no_colon c) (both (is_no_colon c) (list_all is_no_colon es) second).0 (ap is_no_colon (sym same))
split_at_colon (c ∷ ds) [] r s first second e =
    let same : c ≡ 58 = ap (λ (t : List ℕ). get_or t 0 0) e in
    never (is_no_colon c) (both (is_no_colon c) (list_all is_no_colon ds) first).0 (ap is_no_colon same)
split_at_colon (c ∷ ds) (x ∷ es) r s first second e =
    let same : c ≡ x = ap (λ (t : List ℕ). get_or t 0 0) e in
    let rest = split_at_colon ds es r s (both (is_no_colon c) (list_all is_no_colon ds) first).1 (both (is_no_colon x) (list_all is_no_colon es) second).1 (ap (drop 1) e) in
    (λ i. same i ∷ rest.0 i, rest.1)

-- ---- `CODE:VENDOR`

pub key_has_one : (key : Key) → list_all is_no_colon (key_text key) ≡ false
key_has_one key = list_all-append is_no_colon (decimal key.code) (58 ∷ decimal key.vendor) ∙ none (list_all is_no_colon (decimal key.code))
  where
    none : (b : Bool) → (b && false) ≡ false
    none true = refl
    none false = refl

pub key_text_injective : (k j : Key) → IsSmall k → IsSmall j → key_text k ≡ key_text j → k ≡ j
key_text_injective k j small other e =
    let first : k.code < 2 ^ 64 = omega (arith, small.0) in
    let second : j.code < 2 ^ 64 = omega (arith, other.0) in
    let parts = split_at_colon (decimal k.code) (decimal j.code) (decimal k.vendor) (decimal j.vendor) (decimal_has_none k.code first) (decimal_has_none j.code second) e in
    let code = decimal_injective k.code j.code first second parts.0 in
    let vendor = decimal_injective k.vendor j.vendor (omega (arith, small.1)) (omega (arith, other.1)) parts.1 in
    λ i. record { code = code i; vendor = vendor i }
