-- Look-ups by slot, and the fixed rules that were gone through.
use Rattle.std.proofs.Common.{◌≡◌, ℕ, zero, suc, ◌<◌, Bool, true, false, List, [], ◌∷◌, length, drop, get_or, Some, refl, sym, ap, ◌∙◌}
use Rattle.std.specs.Prelude.{◌||◌, ◌&&◌, not, slice_get}
use Rattle.std.specs.Option.{option_map_or}
use Rattle.std.proofs.lemmas.Option.{none-some, same_Some, slice_get-get_or}
use Rattle.dia_book.specs.declared.DRule.{DRule}
use Rattle.dia_book.specs.Dictionary.{is_fixed}
use Rattle.dia_compat.specs.Tests.{leads, begins_with}

-- ---- the fixed rules

drop_none : (i : ℕ) → drop i (let none : List DRule = [] in none) ≡ []
drop_none zero = refl
drop_none (suc i) = refl

or_not : (x : Bool) → x ≡ (x || false)
or_not true = refl
or_not false = refl

-- one rule further
pub one_further : (a b : List DRule) (i : ℕ) (s : DRule) → slice_get b i ≡ Some s
    → begins_with (drop i a) (drop i b) ≡ (not (is_fixed s) || (option_map_or (λ r. leads r s) (slice_get a i) false && begins_with (drop (suc i) a) (drop (suc i) b)))
one_further a [] i s at = absurd (none-some s at)
one_further [] (t ∷ b) zero s at = or_not (not (is_fixed t)) ∙ ap (λ (r : DRule). not (is_fixed r) || false) (same_Some t s at)
one_further (r ∷ a) (t ∷ b) zero s at = ap (λ (x : DRule). not (is_fixed x) || (leads r x && begins_with a b)) (same_Some t s at)
one_further [] (t ∷ b) (suc i) s at = ap (λ (z : List DRule). begins_with z (drop i b)) (sym (drop_none i)) ∙ one_further [] b i s at
one_further (r ∷ a) (t ∷ b) (suc i) s at = one_further a b i s at

pub goes_on : (a b : List DRule) (i : ℕ) (s d : DRule) (x y : Bool) → i < length b → s ≡ get_or b i d → begins_with a b ≡ begins_with (drop i a) (drop i b)
    → x ≡ is_fixed s → x ≡ true → y ≡ option_map_or (λ r. leads r s) (slice_get a i) false → begins_with a b ≡ (y && begins_with (drop (suc i) a) (drop (suc i) b))
goes_on a b i s d x y within item before e f k =
    let further = one_further a b i s (slice_get-get_or b i d within ∙ ap (λ (r : DRule). Some r) (sym item)) in
    before ∙ further
    ∙ ap (λ (z : Bool). not z || (option_map_or (λ r. leads r s) (slice_get a i) false && begins_with (drop (suc i) a) (drop (suc i) b))) (sym e ∙ f)
    ∙ ap (λ (z : Bool). z && begins_with (drop (suc i) a) (drop (suc i) b)) (sym k)
