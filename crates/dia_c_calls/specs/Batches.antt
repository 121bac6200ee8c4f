-- Messages that follow one another in a buffer, and a verdict on each.
use Rattle.std.specs.Prelude.{◌≤◌, ◌-◌, ℕ, List, [], ◌∷◌, take, drop, ⊤}
use Rattle.dia_book.specs.Dictionary.{Dictionary}
use Rattle.dia_terms.specs.declared.Unknown.{Unknown}
use Rattle.dia_terms.specs.declared.Levels.{Levels}
use Rattle.dia_c_calls.specs.declared.verdict.Verdict.{Verdict}
use Rattle.dia_c_calls.specs.Verdicts.{IsVerdictOn}

-- the first message begins at this offset, each one ends at its end, and the next begins there; all are within this many bytes
abbrev pub AreEndsFrom : ℕ → ℕ → List ℕ → Type 0
AreEndsFrom at total [] = ⊤
AreEndsFrom at total (end ∷ ends) = (at ≤ end) × (end ≤ total) × AreEndsFrom end total ends

abbrev pub AreEnds : ℕ → List ℕ → Type 0
AreEnds total ends = AreEndsFrom 0 total ends

-- each message has its verdict
abbrev pub AreVerdictsFrom : Dictionary → Unknown → Levels → ℕ → List ℕ → List ℕ → List Verdict → Type 0
AreVerdictsFrom d u most at bytes [] [] = ⊤
AreVerdictsFrom d u most at bytes (end ∷ ends) (v ∷ vs) = IsVerdictOn d u most (take (end - at) (drop at bytes)) v × AreVerdictsFrom d u most end bytes ends vs
AreVerdictsFrom d u most at bytes [] (v ∷ vs) = ⊥
AreVerdictsFrom d u most at bytes (end ∷ ends) [] = ⊥

abbrev pub AreVerdicts : Dictionary → Unknown → Levels → List ℕ → List ℕ → List Verdict → Type 0
AreVerdicts d u most bytes ends vs = AreVerdictsFrom d u most 0 bytes ends vs
