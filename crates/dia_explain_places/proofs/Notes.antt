-- What a diagnostic gains bit by bit.
use Rattle.std.proofs.Common.{◌≡◌, ℕ, ◌+◌, ◌<◌, List, [], ◌∷◌, ◌++◌, length, take, flat_map, Option, Some, None, IfSome, sym, ap, subst, ◌∙◌, append_assoc, append-nil, suc, arith}
use Rattle.std.proofs.lemmas.Grind.{flat_map-append}
use Rattle.std.proofs.lemmas.List.Concat.{flat_map-cons}
use Rattle.std.proofs.Math.Seq.{take-suc}
use Rattle.std.proofs.Math.ListN.{get_or}
use Rattle.dia_explain_places.specs.Notes.{Gains}

pub gains_nothing : (a : Option (List ℕ)) → Gains a a []
gains_nothing None = λ i. None
gains_nothing (Some text) = sym (append-nil text)

pub gains_more : (a b c : Option (List ℕ)) (x y : List ℕ) → Gains a b x → Gains b c y → Gains a c (x ++ y)
gains_more None b c x y first second = subst (λ o. Gains o c y) first second
gains_more (Some a) None c x y first second = subst (λ o. IfSome o (λ now. now ≡ a ++ (x ++ y))) (sym second) tt
gains_more (Some a) (Some b) None x y first second = tt
gains_more (Some a) (Some b) (Some c) x y first second = second ∙ ap (λ text. text ++ y) first ∙ append_assoc a x y

step : {X : Type 0} (xs : List X) (i : ℕ) (d : X) → i < length xs → take (i + 1) xs ≡ take i xs ++ (get_or xs i d ∷ [])
step xs i d below = let same : i + 1 ≡ suc i = omega arith in ap (λ n. take n xs) same ∙ take-suc xs i d below

-- the texts of one more element
pub one_more : {X : Type 0} (f : X → List ℕ) (xs : List X) (i : ℕ) (d : X) → i < length xs → flat_map f (take i xs) ++ f (get_or xs i d) ≡ flat_map f (take (i + 1) xs)
one_more f xs i d below = sym (ap (flat_map f) (step xs i d below) ∙ flat_map-append f (take i xs) (get_or xs i d ∷ [])
    ∙ ap (λ last. flat_map f (take i xs) ++ last) (flat_map-cons f (get_or xs i d) [] ∙ append-nil (f (get_or xs i d))))
