-- The AVPs that some rule lists are marked, one after the other.
use Rattle.std.proofs.Common.{◌≡◌, ℕ, ◌+◌, ◌<◌, ◌≤◌, Bool, false, List, [], ◌∷◌, ◌++◌, length, Some, refl, sym, ap, subst, arith, inl, inr}
use Rattle.std.specs.Prelude.{◌⊎◌, slice_get}
use Rattle.std.proofs.lemmas.Bool.{cases_lt}
use Rattle.std.proofs.lemmas.List.{length-append}
use Rattle.dia_book.proofs.Members.{into_left, into_right}
use Rattle.dia_lint.specs.ListedAvps.{AreMarked}

pub none_marked : (marks : List Bool) → marks ≡ [] → AreMarked [] 0 marks
none_marked marks is = record { size = ap length is; each = λ e lt. absurd (omega (arith, lt)) }

-- one place more, which isn't marked
pub one_unmarked : (n : ℕ) (old new : List Bool) → AreMarked [] n old → new ≡ old ++ false ∷ [] → AreMarked [] (n + 1) new
one_unmarked n old new are is = subst (AreMarked [] (n + 1)) (sym is) (record {
  size = let size = are.size in omega (arith, length-append old (false ∷ []), size);
  each = λ e lt. by e lt (cases_lt e n);
})
  where
    by : (e : ℕ) → e < n + 1 → (e < n) ⊎ (n ≤ e) → slice_get (old ++ false ∷ []) e ≡ Some false
    by e lt (inl less) = into_left old (false ∷ []) e false (are.each e less)
    by e lt (inr le) =
        let same : length old + 0 ≡ e = let size = are.size in omega (arith, size, le, lt) in
        subst (λ (k : ℕ). slice_get (old ++ false ∷ []) k ≡ Some false) same (into_right old (false ∷ []) 0 false refl)
