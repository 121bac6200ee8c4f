-- Lists in which no member is like an earlier one.
use Rattle.std.proofs.Common.{◌≡◌, ℕ, zero, suc, ◌+◌, ◌<◌, Bool, true, false, List, [], ◌∷◌, ◌++◌, length, find, Option, Some, None, refl, sym, ap, ◌∙◌, ⊎_elim, arith}
use Rattle.std.specs.Prelude.{slice_get, is_some}
use Rattle.std.specs.List.{list_any}
use Rattle.std.specs.Option.{option_map_or}
use Rattle.std.proofs.lemmas.Bool.{both_ways, cases_order}
use Rattle.std.proofs.lemmas.List.{append_assoc, length_push}
use Rattle.std.proofs.lemmas.Option.{none-some, same_Some}
use Rattle.dia_book.proofs.NumberedGroups.{slice_get-append_left}
use Rattle.dia_book.proofs.Members.{find-is_some, list_any-none_at}
use Rattle.dia_dict.specs.Resolution.{repeats}

fresh_and_rest : {X : Type 0} (same : X → X → Bool) (earlier : List X) (z : X) (zs : List X) (o : Option X) → find (same z) earlier ≡ o
    → option_map_or (λ y. (z, y) ∷ repeats same (earlier ++ z ∷ []) zs) o (repeats same (earlier ++ z ∷ []) zs) ≡ []
    → (list_any (same z) earlier ≡ false) × (repeats same (earlier ++ z ∷ []) zs ≡ [])
fresh_and_rest same earlier z zs (Some y) here none = absurd (let p : (z, y) ∷ repeats same (earlier ++ z ∷ []) zs ≡ [] = none in cc)
fresh_and_rest {X} same earlier z zs None here none = (sym (find-is_some (same z) earlier) ∙ ap (λ (o : Option X). is_some o) here, none)

-- no member is like an earlier one
pub repeats-none_at : {X : Type 0} (same : X → X → Bool) (earlier xs : List X) → repeats same earlier xs ≡ [] → (i j : ℕ) (x y : X)
    → slice_get (earlier ++ xs) i ≡ Some x → slice_get xs j ≡ Some y → i < length earlier + j → same y x ≡ false
repeats-none_at same earlier [] none i j x y at at' below = absurd (none-some y at')
repeats-none_at same earlier (z ∷ zs) none i zero x y at at' below =
    let fresh = (fresh_and_rest same earlier z zs (find (same z) earlier) refl none).0 in
    let known : slice_get earlier i ≡ Some x = sym (slice_get-append_left earlier (z ∷ zs) i (omega arith)) ∙ at in
    ap (λ w. same w x) (sym (same_Some z y at')) ∙ list_any-none_at (same z) earlier fresh i x known
repeats-none_at same earlier (z ∷ zs) none i (suc j) x y at at' below =
    let rest = (fresh_and_rest same earlier z zs (find (same z) earlier) refl none).1 in
    repeats-none_at same (earlier ++ z ∷ []) zs rest i j x y (ap (λ ys. slice_get ys i) (append_assoc earlier (z ∷ []) zs) ∙ at) at' (omega (arith, length_push earlier z))

-- so two places with members that are like one another are one
pub repeats-distinct : {X : Type 0} (same : X → X → Bool) (xs : List X) → repeats same [] xs ≡ [] → (i j : ℕ) (x y : X)
    → slice_get xs i ≡ Some x → slice_get xs j ≡ Some y → same x y ≡ true → same y x ≡ true → i ≡ j
repeats-distinct same xs none i j x y at at' e e' =
    ⊎_elim (λ s. s) (⊎_elim
    (λ below. absurd (both_ways (same y x) (repeats-none_at same [] xs none i j x y at at' (omega arith)) e'))
    (λ above. absurd (both_ways (same x y) (repeats-none_at same [] xs none j i y x at' at (omega arith)) e)))
    (cases_order i j)
