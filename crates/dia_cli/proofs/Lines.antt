-- A command line that is made of rows, one after another.
use Rattle.std.proofs.Common.{◌≡◌, ◌∙◌, ◌<◌, ◌+◌, ◌||◌, ℕ, Bool, true, false, List, refl, sym, ap, length, map, take, get_or}
use Rattle.std.specs.List.{fold}
use Rattle.std.proofs.lemmas.List.Folds.{fold-map}
use Rattle.std.proofs.lemmas.List.Sums.{fold_more}

-- one more row is one more step
pub rows_more : {X Y Z W : Type 0} (f : W → Z → W) (g : Y → Z) (h : X → Y) (a : W) (xs : List X) (i : ℕ) (x : X) → i < length xs
    → f (fold f a (map g (map h (take i xs)))) (g (h (get_or xs i x))) ≡ fold f a (map g (map h (take (i + 1) xs)))
rows_more {X} {Y} {Z} {W} f g h a xs i x lt =
    let at = λ (ts : List X). fold-map f g a (map h ts) ∙ fold-map (λ b y. f b (g y)) h a ts in
    ap (λ (w : W). f w (g (h (get_or xs i x)))) (at (take i xs)) ∙ sym (fold_more (λ b y. f b (g (h y))) a xs i x lt) ∙ sym (at (take (i + 1) xs))

pub or_false : (b : Bool) → (b || false) ≡ b
or_false true = refl
or_false false = refl
