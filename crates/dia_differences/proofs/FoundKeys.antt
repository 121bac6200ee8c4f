-- Members that are found by their keys.
use Rattle.std.proofs.Common.{◌≡◌, ℕ, ◌+◌, ◌<◌, ◌≤◌, Bool, true, false, cond, List, length, Option, Some, None, refl, sym, ap, ◌∙◌, arith, inl, inr}
use Rattle.std.specs.Prelude.{◌⊎◌, slice_get, position}
use Rattle.std.specs.Bool.{Decides}
use Rattle.std.proofs.lemmas.Bool.{cases_lt, cond-false, cond-true}
use Rattle.std.proofs.lemmas.Option.{none-some, same_Some, slice_get_within}
use Rattle.dia_valid.proofs.Entries.{at_position}
use Rattle.dia_differences.proofs.Paired.{position_one}

-- the first n members are found by their keys, and nothing else is
pub record IsFound {X K : Type 0} (key : X → K) (xs : List X) (found : K → Option ℕ) (n : ℕ) : Type 0 where
  pub each : (j : ℕ) (y : X) → j < n → slice_get xs j ≡ Some y → found (key y) ≡ Some j
  pub only : (q : K) (j : ℕ) → found q ≡ Some j → (y : X) × (slice_get xs j ≡ Some y) × (key y ≡ q)

module _ {X K : Type 0} (key : X → K) (same : K → K → Bool) (decides : (a b : K) → Decides (same a b) (a ≡ b)) (xs : List X)
    (distinct : (i j : ℕ) (x y : X) → slice_get xs i ≡ Some x → slice_get xs j ≡ Some y → key x ≡ key y → i ≡ j) where
  pub found_none : (found : K → Option ℕ) → ((q : K) → found q ≡ None) → IsFound key xs found 0
  found_none found none = record { each = λ j y less at. absurd (omega arith); only = λ q j e. absurd (none-some j (sym (none q) ∙ e)) }

  pub found_more : (found new : K → Option ℕ) (n : ℕ) (x : X) → slice_get xs n ≡ Some x → ((q : K) → new q ≡ cond (same (key x) q) (Some n) (found q)) → IsFound key xs found n → IsFound key xs new (n + 1)
  found_more found new n x at updates h = record { each = λ j y less there. each j y less there (same (key x) (key y)) refl; only = λ q j e. only q j (same (key x) q) refl e }
    where
      earlier : (j : ℕ) (y : X) → j < n + 1 → slice_get xs j ≡ Some y → same (key x) (key y) ≡ false → j < n
      earlier j y less there e = by (cases_lt j n)
        where
          by : (j < n) ⊎ (n ≤ j) → j < n
          by (inl k) = k
          by (inr k) =
              let place : j ≡ n = omega arith in
              let one : x ≡ y = same_Some x y (sym at ∙ ap (slice_get xs) (sym place) ∙ there) in
              absurd (let f : false ≡ true = sym e ∙ (decides (key x) (key y)).1 (ap key one) in cc)

      each : (j : ℕ) (y : X) → j < n + 1 → slice_get xs j ≡ Some y → (b : Bool) → same (key x) (key y) ≡ b → new (key y) ≡ Some j
      each j y less there true e =
          updates (key y) ∙ cond-true (same (key x) (key y)) (Some n) (found (key y)) e ∙ ap (λ (k : ℕ). Some k) (distinct n j x y at there ((decides (key x) (key y)).0 e))
      each j y less there false e = updates (key y) ∙ cond-false (same (key x) (key y)) (Some n) (found (key y)) e ∙ h.each j y (earlier j y less there e) there

      only : (q : K) (j : ℕ) → (b : Bool) → same (key x) q ≡ b → new q ≡ Some j → (y : X) × (slice_get xs j ≡ Some y) × (key y ≡ q)
      only q j true e is =
          let place : n ≡ j = same_Some n j (sym (cond-true (same (key x) q) (Some n) (found q) e) ∙ sym (updates q) ∙ is) in
          (x, ap (slice_get xs) (sym place) ∙ at, (decides (key x) q).0 e)
      only q j false e is = h.only q j (sym (cond-false (same (key x) q) (Some n) (found q) e) ∙ sym (updates q) ∙ is)

  -- all are found at their places
  pub found_all : (found : K → Option ℕ) (n : ℕ) → length xs ≤ n → IsFound key xs found n → (q : K) → found q ≡ position (λ y. same q (key y)) xs
  found_all found n all h q = by (found q) refl
    where
      from : (j : ℕ) (y : X) → slice_get xs j ≡ Some y → same q (key y) ≡ true → found q ≡ Some j
      from j y at test =
          let within : j < length xs = slice_get_within xs j y at in
          ap found ((decides q (key y)).0 test) ∙ h.each j y (omega arith) at

      missing : (o : Option ℕ) → position (λ y. same q (key y)) xs ≡ o → found q ≡ None → None ≡ position (λ y. same q (key y)) xs
      missing None is none = sym is
      missing (Some j) is none =
          let (y, at, test) = at_position (λ (z : X). same q (key z)) xs j is in
          absurd (none-some j (sym none ∙ from j y at test))

      by : (o : Option ℕ) → found q ≡ o → found q ≡ position (λ y. same q (key y)) xs
      by None is = is ∙ missing (position (λ y. same q (key y)) xs) refl is
      by (Some j) is =
          let (y, at, same_key) = h.only q j is in
          is ∙ sym (position_one (λ (z : X). same q (key z)) xs j y at ((decides q (key y)).1 (sym same_key)) (λ i z there test. distinct i j z y there at (sym ((decides q (key z)).0 test) ∙ sym same_key)))
