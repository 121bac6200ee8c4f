-- What is listed after one place more, and the entry at a place.
use Rattle.std.proofs.Common.{◌≡◌, ℕ, ◌+◌, ◌<◌, Bool, true, false, List, [], ◌∷◌, ◌++◌, length, map, Some, refl, ap, sym, ◌∙◌, add-one, arith, inl, inr}
use Rattle.std.specs.Prelude.{slice_get}
use Rattle.std.proofs.lemmas.List.{map-append}
use Rattle.std.proofs.lemmas.Option.{slice_get_cases}
use Rattle.dia_lint.specs.Held.{held_at}
use Rattle.dia_unsent.specs.Unsent.{unheld}
use Rattle.dia_unsent.specs.declared.unsent.Unsent.{Unsent}

-- after a place that is held
pub none_more : (held : List Bool) (n : ℕ) (old new : List Unsent) → held_at held n ≡ true → map (λ avp. avp.entry) old ≡ unheld held n → new ≡ old → map (λ avp. avp.entry) new ≡ unheld held (n + 1)
none_more held n old new is same is_new =
    ap (λ (avps : List Unsent). map (λ avp. avp.entry) avps) is_new ∙ (same ∙ sym (ap (unheld held) (add-one n) ∙ rw is refl))

-- after one that isn't
pub one_more : (held : List Bool) (n : ℕ) (old new : List Unsent) (avp : Unsent) → held_at held n ≡ false → map (λ avp. avp.entry) old ≡ unheld held n → avp.entry ≡ n → new ≡ old ++ avp ∷ []
    → map (λ avp. avp.entry) new ≡ unheld held (n + 1)
one_more held n old new avp is same is_entry is_new =
    ap (λ (avps : List Unsent). map (λ avp. avp.entry) avps) is_new ∙ map-append (λ (x : Unsent). x.entry) old (avp ∷ [])
    ∙ (ap (λ (places : List ℕ). places ++ avp.entry ∷ []) same ∙ ap (λ (place : ℕ). unheld held n ++ place ∷ []) is_entry ∙ sym (ap (unheld held) (add-one n) ∙ rw is refl))

pub at_place : {X : Type 0} (xs : List X) (n : ℕ) → n < length xs → (x : X) × (slice_get xs n ≡ Some x)
at_place xs n within = elim (slice_get_cases xs n).1 [
  | inl h ↦ (h.0, h.2)
  | inr h ↦ (let past = h.0 in absurd (omega (arith, past, within)))
]
