-- The first member of a list that passes a test, if there is one.
use Rattle.std.proofs.Common.{◌≡◌, ℕ, Bool, true, false, List, [], ◌∷◌, get_or, Option, Some, None, refl, sym, ap, ◌∙◌, inl, inr}
use Rattle.std.specs.Prelude.{◌⊎◌, is_some, slice_get, position}
use Rattle.std.proofs.lemmas.Bool.{false_from_ne_true}
use Rattle.std.proofs.lemmas.Option.{none-some, slice_get-get_or}
use Rattle.std.proofs.lemmas.List.Quantifiers.{position-Some}
use Rattle.dia_book.proofs.Members.{position-is_some}
use Rattle.dia_valid.proofs.Members.{IsIn, at_in}

pub record Found {X : Type 0} (p : X → Bool) (xs : List X) : Type 0 where
  pub place : ℕ
  pub item : X
  pub is_place : position p xs ≡ Some place
  pub at : slice_get xs place ≡ Some item
  pub passes : p item ≡ true

pub record NotFound {X : Type 0} (p : X → Bool) (xs : List X) : Type 0 where
  pub is_none : position p xs ≡ None
  pub none : (x : X) → IsIn x xs → p x ≡ false

found_at : {X : Type 0} (p : X → Bool) (xs : List X) (i : ℕ) → position p xs ≡ Some i → Found p xs
found_at p [] i e = absurd (none-some i e)
found_at p (x ∷ xs) i e = let r = position-Some p (x ∷ xs) i x e in record { place = i; item = get_or (x ∷ xs) i x; is_place = e; at = slice_get-get_or (x ∷ xs) i x r.0; passes = r.1 }

pub found_or_not : {X : Type 0} (p : X → Bool) (xs : List X) → Found p xs ⊎ NotFound p xs
found_or_not {X} p xs = by (position p xs) refl
  where
    by : (o : Option ℕ) → position p xs ≡ o → Found p xs ⊎ NotFound p xs
    by (Some i) e = inl (found_at p xs i e)
    by None e = inr (record {
      is_none = e;
      none = λ x h. false_from_ne_true (p x) (λ pass.
          let r = at_in xs x h in
          let some = position-is_some p xs r.place x r.at pass in
          absurd (let f : true ≡ false = sym some ∙ ap (λ (o : Option ℕ). is_some o) e in cc));
    })
