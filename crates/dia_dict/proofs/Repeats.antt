-- The members of a list that are like an earlier one.
use Rattle.std.proofs.Common.{◌≡◌, Bool, List, [], ◌∷◌, ◌++◌, map, find, Option, Some, None, refl, sym, ap, ◌∙◌}
use Rattle.std.specs.Option.{option_map, option_map_or}
use Rattle.std.proofs.lemmas.List.{append_assoc, append-nil, map-append}
use Rattle.dia_dict.specs.Resolution.{repeats}
use Rattle.dia_book.proofs.LookUpsByName.{find-map}

pub repeats-append : {X : Type 0} (same : X → X → Bool) (earlier xs ys : List X) → repeats same earlier (xs ++ ys) ≡ repeats same earlier xs ++ repeats same (earlier ++ xs) ys
repeats-append same earlier [] ys = ap (λ zs. repeats same zs ys) (sym (append-nil earlier))
repeats-append {X} same earlier (x ∷ xs) ys =
    by (find (same x) earlier) (repeats-append same (earlier ++ x ∷ []) xs ys ∙ ap (λ zs. repeats same (earlier ++ x ∷ []) xs ++ repeats same zs ys) (append_assoc earlier (x ∷ []) xs))
  where
    by : (o : Option X) → repeats same (earlier ++ x ∷ []) (xs ++ ys) ≡ repeats same (earlier ++ x ∷ []) xs ++ repeats same (earlier ++ x ∷ xs) ys
        → option_map_or (λ y. (x, y) ∷ repeats same (earlier ++ x ∷ []) (xs ++ ys)) o (repeats same (earlier ++ x ∷ []) (xs ++ ys))
        ≡ option_map_or (λ y. (x, y) ∷ repeats same (earlier ++ x ∷ []) xs) o (repeats same (earlier ++ x ∷ []) xs) ++ repeats same (earlier ++ x ∷ xs) ys
    by (Some y) e = ap {B = List (X × X)} (λ zs. (x, y) ∷ zs) e
    by None e = e

abbrev pub both : {X Y : Type 0} → (X → Y) → X × X → Y × Y
both f p = (f p.0, f p.1)

pub repeats-map : {X Y : Type 0} (f : X → Y) (same : Y → Y → Bool) (earlier xs : List X) → repeats same (map f earlier) (map f xs) ≡ map (both f) (repeats (λ a b. same (f a) (f b)) earlier xs)
repeats-map f same earlier [] = refl
repeats-map {X} {Y} f same earlier (x ∷ xs) =
    by (find (λ y. same (f x) (f y)) earlier) (find (same (f x)) (map f earlier)) (find-map f (same (f x)) earlier)
    (ap (λ zs. repeats same zs (map f xs)) (sym (map-append f earlier (x ∷ []))) ∙ repeats-map f same (earlier ++ x ∷ []) xs)
  where
    by : (o : Option X) (c : Option Y) → c ≡ option_map f o → repeats same (map f earlier ++ f x ∷ []) (map f xs) ≡ map (both f) (repeats (λ p q. same (f p) (f q)) (earlier ++ x ∷ []) xs)
        → option_map_or (λ y. (f x, y) ∷ repeats same (map f earlier ++ f x ∷ []) (map f xs)) c (repeats same (map f earlier ++ f x ∷ []) (map f xs))
        ≡ map (both f) (option_map_or (λ y. (x, y) ∷ repeats (λ p q. same (f p) (f q)) (earlier ++ x ∷ []) xs) o (repeats (λ p q. same (f p) (f q)) (earlier ++ x ∷ []) xs))
    by (Some y) c s e = rw s (ap {B = List (Y × Y)} (λ zs. (f x, f y) ∷ zs) e)
    by None c s e = rw s e
