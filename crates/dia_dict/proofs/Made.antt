-- Lists that a loop makes, one member for each of another list.
use Rattle.std.proofs.Common.{◌≡◌, ℕ, ◌+◌, ◌<◌, List, [], ◌∷◌, ◌++◌, length, map, take, get_or, sym, ap, ◌∙◌}
use Rattle.std.proofs.lemmas.List.{append_assoc, map-append, map_more}

-- members that are seen by their views, and a list that was begun
module _ {X Y Z : Type 0} (g : Y → Z) (f : X → Y) (xs : List X) (i : ℕ) (x : X) (within : i < length xs) (read : x ≡ get_or xs i x) where
  seen-more : map g (map f (take (i + 1) xs)) ≡ map g (map f (take i xs)) ++ g (f x) ∷ []
  seen-more =
      let seen = map f (take i xs) in
      ap (map g) (map_more f xs i x within ∙ ap (λ y. seen ++ f y ∷ []) (sym read)) ∙ map-append g seen (f x ∷ [])

  pub viewed-more : {M : Type 0} (view : M → Z) (made next : List M) (m : M) → map view made ≡ map g (map f (take i xs)) → view m ≡ g (f x) → next ≡ made ++ m ∷ []
      → map view next ≡ map g (map f (take (i + 1) xs))
  viewed-more view made next m so one more =
      ap (map view) more ∙ map-append view made (m ∷ []) ∙ ap (λ (zs : List Z). zs ++ view m ∷ []) so ∙ ap (λ (z : Z). map g (map f (take i xs)) ++ z ∷ []) one ∙ sym seen-more

  pub listed-more : (made next : List Z) (z : Z) → made ≡ map g (map f (take i xs)) → z ≡ g (f x) → next ≡ made ++ z ∷ [] → next ≡ map g (map f (take (i + 1) xs))
  listed-more made next z so one more =
      more ∙ ap (λ (zs : List Z). zs ++ z ∷ []) so ∙ ap (λ (y : Z). map g (map f (take i xs)) ++ y ∷ []) one ∙ sym seen-more

  pub added-more : (before made next : List Z) → made ≡ before ++ map g (map f (take i xs)) → next ≡ made ++ g (f x) ∷ [] → next ≡ before ++ map g (map f (take (i + 1) xs))
  added-more before made next so more =
      more ∙ ap (λ (zs : List Z). zs ++ g (f x) ∷ []) so ∙ append_assoc before (map g (map f (take i xs))) (g (f x) ∷ []) ∙ ap (λ (zs : List Z). before ++ zs) (sym seen-more)
