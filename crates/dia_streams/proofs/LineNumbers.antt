-- What is reported of verdicts, after the numbers of their lines.
use Rattle.std.proofs.Common.{◌≡◌, ℕ, suc, ◌+◌, List, [], ◌∷◌, ◌++◌, length, refl, sym, ap, ap₂, ◌∙◌, append_assoc, arith}
use Rattle.std.specs.List.{flat_map}
use Rattle.std.proofs.lemmas.List.{append-nil, length-append}
use Rattle.std.proofs.lemmas.List.Concat.{flat_map-cons}
use Rattle.dia_streams.specs.Lines.{line_number, recorded_from, recorded_lines}

number_more : (n : ℕ) → line_number (line_number n + 1) ≡ line_number (suc n)
number_more n = grind arith

-- one more line was counted
pub one_more_line : {V : Type 0} (verdicts : List V) (old new : ℕ) → old ≡ line_number (length verdicts) → new ≡ line_number (old + 1)
    → new ≡ line_number (suc (length verdicts))
one_more_line verdicts old new is more = more ∙ ap (λ (n : ℕ). line_number (n + 1)) is ∙ number_more (length verdicts)

module _ {V : Type 0} (recorded : ℕ → V → List ℕ) where
  pub recorded_from-append : (n : ℕ) (xs ys : List V) → recorded_from recorded n (xs ++ ys) ≡ recorded_from recorded n xs ++ recorded_from recorded (n + length xs) ys
  recorded_from-append n [] ys = ap (λ (k : ℕ). recorded_from recorded k ys) (omega arith)
  recorded_from-append n (x ∷ xs) ys =
      ap (λ (t : List ℕ). recorded (line_number n) x ++ t)
      (recorded_from-append (suc n) xs ys ∙ ap (λ (k : ℕ). recorded_from recorded (suc n) xs ++ recorded_from recorded k ys) (omega arith))
      ∙ sym (append_assoc (recorded (line_number n) x) (recorded_from recorded (suc n) xs) (recorded_from recorded (n + length (x ∷ xs)) ys))

  -- the report of the verdicts on all lines is that of those at the front, then that of the others
  pub recorded_lines-append : (xs ys : List V) → recorded_lines recorded (xs ++ ys) ≡ recorded_lines recorded xs ++ recorded_from recorded (suc (length xs)) ys
  recorded_lines-append xs ys = recorded_from-append 1 xs ys ∙ ap (λ (k : ℕ). recorded_lines recorded xs ++ recorded_from recorded k ys) (omega arith)

  -- the report of one verdict
  pub last_recorded : (n number : ℕ) (verdict : V) (old new : List ℕ) → number ≡ line_number n → new ≡ old ++ recorded number verdict → new ≡ old ++ recorded_from recorded n (verdict ∷ [])
  last_recorded n number verdict old new is h =
      h ∙ ap (λ (k : ℕ). old ++ recorded k verdict) is ∙ ap (λ (t : List ℕ). old ++ t) (sym (append-nil (recorded (line_number n) verdict)))

  -- the report of verdicts, and then of more
  pub both_recorded : (before xs ys : List V) (a b c : List ℕ) → b ≡ a ++ recorded_from recorded (suc (length before)) xs → c ≡ b ++ recorded_from recorded (suc (length (before ++ xs))) ys
      → c ≡ a ++ recorded_from recorded (suc (length before)) (xs ++ ys)
  both_recorded before xs ys a b c h k =
      let n = suc (length before) in
      let following : suc (length (before ++ xs)) ≡ n + length xs = omega (arith, length-append before xs) in
      k ∙ ap₂ (λ (t : List ℕ) (m : ℕ). t ++ recorded_from recorded m ys) h following ∙ append_assoc a (recorded_from recorded n xs) (recorded_from recorded (n + length xs) ys)
      ∙ ap (λ (t : List ℕ). a ++ t) (sym (recorded_from-append n xs ys))

-- where numbers aren't reported
pub without_numbers : {V : Type 0} (recorded : V → List ℕ) (n : ℕ) (verdicts : List V) → recorded_from (λ number verdict. recorded verdict) n verdicts ≡ flat_map recorded verdicts
without_numbers recorded n [] = refl
without_numbers recorded n (v ∷ vs) = ap (λ (t : List ℕ). recorded v ++ t) (without_numbers recorded (suc n) vs) ∙ sym (flat_map-cons recorded v vs)
