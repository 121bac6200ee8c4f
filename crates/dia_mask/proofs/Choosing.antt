-- Choices of AVPs, entry by entry.
use Rattle.std.proofs.Common.{◌≡◌, ◌<◌, ℕ, ◌+◌, Bool, false, List, [], ◌∷◌, ◌++◌, map, length, take, suc, zero, add-one, Option, Some, None, refl, sym, ap, ◌∙◌, arith, IfSome, slice_get, unwrap_or}
use Rattle.std.proofs.lemmas.Option.{slice_get-map}
use Rattle.std.specs.Option.{option_map, option_map_or}
use Rattle.dia_book.specs.Dictionary.{Dictionary, DictEntry}
use Rattle.dia_mask.specs.declared.choice.Choice.{Choice}
use Rattle.dia_mask.specs.Choosing.{IsChosen}

unwrapped : (f : DictEntry → Bool) (o : Option DictEntry) → unwrap_or (option_map f o) false ≡ option_map_or f o false
unwrapped f None = refl
unwrapped f (Some e) = refl

pub chosen_from_map : (f : DictEntry → Bool) (unknown : Bool) (d : Dictionary) (choice : Choice) → choice.masked.items ≡ map f d.entries → choice.unknown ≡ unknown → IsChosen f unknown d choice
chosen_from_map f unknown d choice is other None = other
chosen_from_map f unknown d choice is other (Some entry) =
    ap (λ (bs : List Bool). unwrap_or (slice_get bs entry) false) is ∙ ap (λ (o : Option Bool). unwrap_or o false) (slice_get-map f d.entries entry) ∙ unwrapped f (slice_get d.entries entry)

nothing_there : {n : ℕ} {X : Type 0} → n < 0 → X
nothing_there h = absurd (omega (arith, h))

mapped_next : (f : DictEntry → Bool) (xs : List DictEntry) (i : ℕ) (b : Bool) → i < length xs → IfSome (slice_get xs i) (λ e. b ≡ f e) → map f (take (suc i) xs) ≡ map f (take i xs) ++ b ∷ []
mapped_next f [] i b small is = nothing_there small
mapped_next f (x ∷ xs) zero b small is = ap (λ (y : Bool). y ∷ []) (sym is)
mapped_next f (x ∷ xs) (suc i) b small is = ap (λ (t : List Bool). f x ∷ t) (mapped_next f xs i b (omega (arith, small)) is)

pub mapped_more : (f : DictEntry → Bool) (xs : List DictEntry) (i : ℕ) (b : Bool) → i < length xs → IfSome (slice_get xs i) (λ e. b ≡ f e) → map f (take (i + 1) xs) ≡ map f (take i xs) ++ b ∷ []
mapped_more f xs i b small is = ap (λ (n : ℕ). map f (take n xs)) (add-one i) ∙ mapped_next f xs i b small is
