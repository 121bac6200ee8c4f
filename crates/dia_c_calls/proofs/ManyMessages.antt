-- Messages that follow one another in a buffer.
use Rattle.std.proofs.Common.{◌≡◌, ℕ, List, [], ◌∷◌, ◌++◌, length, Option, Some, None, refl, ap, subst, suc, sym, append-nil, true≢false}
use Rattle.std.specs.Prelude.{IfSome, IsSome}
use Rattle.dia_book.specs.Dictionary.{Dictionary}
use Rattle.dia_terms.specs.declared.Unknown.{Unknown}
use Rattle.dia_terms.specs.declared.Levels.{Levels}
use Rattle.dia_c_calls.specs.declared.verdict.Verdict.{Verdict}
use Rattle.dia_c_calls.specs.Batches.{AreVerdicts, AreVerdictsFrom}

-- what is known of the verdicts so far: with those on the rest they are verdicts on all
abbrev pub Continues : Dictionary → Unknown → Levels → List ℕ → List ℕ → ℕ → List ℕ → List Verdict → Type 0
Continues d u most bytes ends at left so_far = (vs : List Verdict) → AreVerdictsFrom d u most at bytes left vs → AreVerdictsFrom d u most 0 bytes ends (so_far ++ vs)

-- no verdict is left
pub all_there : (d : Dictionary) (u : Unknown) (most : Levels) (bytes ends : List ℕ) (at : ℕ) (left : List ℕ) (so_far : List Verdict)
    → Continues d u most bytes ends at left so_far → left ≡ [] → AreVerdictsFrom d u most 0 bytes ends so_far
all_there d u most bytes ends at left so_far so none =
    subst (λ (xs : List Verdict). AreVerdictsFrom d u most 0 bytes ends xs) (append-nil so_far) (so [] (subst (λ (l : List ℕ). AreVerdictsFrom d u most at bytes l []) (sym none) tt))

-- as many verdicts as messages
as_many : (d : Dictionary) (u : Unknown) (most : Levels) (at : ℕ) (bytes ends : List ℕ) (vs : List Verdict) → AreVerdictsFrom d u most at bytes ends vs → length vs ≡ length ends
as_many d u most at bytes [] [] all = refl
as_many d u most at bytes [] (v ∷ vs) all = absurd all
as_many d u most at bytes (end ∷ ends) [] all = absurd all
as_many d u most at bytes (end ∷ ends) (v ∷ vs) (is, all) = ap (λ (n : ℕ). suc n) (as_many d u most end bytes ends vs all)

pub all_have_one : (found : Option Dictionary) (u : Unknown) (most : Levels) (bytes ends : List ℕ) (vs : List Verdict) → IsSome found → IfSome found (λ d. AreVerdicts d u most bytes ends vs)
    → length vs ≡ length ends
all_have_one (Some d) u most bytes ends vs is all = as_many d u most 0 bytes ends vs all
all_have_one None u most bytes ends vs is all = absurd (true≢false (sym is))
