-- What elements have, one after the other.
use Rattle.std.proofs.Common.{◌≡◌, ℕ, ◌+◌, ◌<◌, List, [], ◌∷◌, ◌++◌, length, take, get_or, Option, Some, None, sym, ap, ◌∙◌, append-nil, append_assoc}
use Rattle.std.specs.Prelude.{option_to_list}
use Rattle.std.specs.List.{filter_map, flat_map}
use Rattle.std.proofs.lemmas.List.{take_more}
use Rattle.std.proofs.lemmas.List.Concat.{flat_map-append}
use Rattle.std.proofs.lemmas.List.Elements.{filter_map-append}

-- lists, of one element more
pub lists_next : {X Y : Type 0} (f : X → List Y) (xs : List X) (i : ℕ) (d : X) (old new : List Y) → i < length xs → new ≡ old ++ f (get_or xs i d) → old ≡ flat_map f (take i xs) → new ≡ flat_map f (take (i + 1) xs)
lists_next {X} {Y} f xs i d old new within step before =
    let x = get_or xs i d in
    step ∙ ap (λ (ys : List Y). ys ++ f x) before ∙ ap (λ (ys : List Y). flat_map f (take i xs) ++ ys) (sym (append-nil (f x))) ∙ sym (flat_map-append f (take i xs) (x ∷ []))
    ∙ ap (flat_map f) (sym (take_more xs i d within))

one_or_none : {X Y : Type 0} (f : X → Option Y) (x : X) (o : Option Y) → f x ≡ o → option_to_list o ≡ filter_map f (x ∷ [])
one_or_none f x None is = sym (ap (λ (o : Option _). filter_map (λ _. o) (x ∷ [])) is)
one_or_none f x (Some y) is = sym (ap (λ (o : Option _). filter_map (λ _. o) (x ∷ [])) is)

-- values that may be missing, after the first ones, of one element more
pub values_next : {X Y : Type 0} (f : X → Option Y) (xs : List X) (i : ℕ) (d : X) (found : Option Y) (first old new : List Y) → i < length xs → found ≡ f (get_or xs i d) → new ≡ old ++ option_to_list found
    → old ≡ first ++ filter_map f (take i xs) → new ≡ first ++ filter_map f (take (i + 1) xs)
values_next {X} {Y} f xs i d found first old new within is step before =
    let x = get_or xs i d in
    step ∙ ap (λ (ys : List Y). old ++ ys) (one_or_none f x found (sym is)) ∙ ap (λ (ys : List Y). ys ++ filter_map f (x ∷ [])) before ∙ append_assoc first (filter_map f (take i xs)) (filter_map f (x ∷ []))
    ∙ ap (λ (ys : List Y). first ++ ys) (sym (filter_map-append f (take i xs) (x ∷ [])) ∙ ap (filter_map f) (sym (take_more xs i d within)))
