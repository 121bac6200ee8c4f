-- Texts that are added one after the other.
use Rattle.std.proofs.Common.{◌≡◌, ℕ, List, ◌∙◌, append_assoc}
use Rattle.std.specs.Prelude.{◌++◌, Result, Ok, Err, OnOk, is_ok, cond}

-- a text is added, and after it another
pub pushed_last : {T E : Type 0} (r : Result T E) (was more new all : List ℕ) → new ≡ cond (is_ok r) (was ++ more) was → was ++ more ≡ all → OnOk r (new ≡ all)
pushed_last (Ok x) was more new all now same = now ∙ same
pushed_last (Err e) was more new all now same = tt

pub regrouped : (was a b c : List ℕ) → was ++ a ++ b ++ c ≡ was ++ (a ++ b ++ c)
regrouped was a b c = simp append_assoc
