-- The names on paths, one after the other.
use Rattle.std.proofs.Common.{◌≡◌, ℕ, zero, suc, ◌+◌, ◌-◌, ◌<◌, ◌≤◌, Bor, List, [], ◌∷◌, ◌++◌, length, map, reverse, Option, Some, None, refl, sym, ap, ◌∙◌, arith}
use Rattle.std.specs.Prelude.{slice_get}
use Rattle.std.specs.Option.{option_map_or}
use Rattle.std.proofs.lemmas.List.{append-nil, append_assoc, map-append, map_push, reverse-append}
use Rattle.dia_book.specs.Dictionary.{Dictionary, PlainDefinition, definitions}
use Rattle.dia_places.specs.declared.graph.Reached.{Reached}
use Rattle.dia_places.specs.Names.{name_at, names_of}
use Rattle.dia_places.specs.Records.{around_from, path_of, reached_at}

pub map-reverse : {X Y : Type 0} (f : X → Y) (xs : List X) → map f (reverse xs) ≡ reverse (map f xs)
map-reverse f [] = refl
map-reverse {Y = Y} f (x ∷ xs) =
    ap (map f) (reverse-append (x ∷ []) xs) ∙ map-append f (reverse xs) (x ∷ []) ∙ ap (λ (ys : List Y). ys ++ f x ∷ []) (map-reverse f xs) ∙ sym (reverse-append (f x ∷ []) (map f xs))

pub name_here : (d : Dictionary) (n : ℕ) (x : PlainDefinition) → slice_get (definitions d) n ≡ Some x → name_at d n ≡ x.name
name_here d n x at = ap (λ (o : Option PlainDefinition). option_map_or (λ (y : PlainDefinition). y.name) o []) at

abbrev now : List (Bor (List ℕ)) → List (List ℕ)
now names = map (λ (name : Bor (List ℕ)). name.now) names

around_next : (rs : List Reached) (most number : ℕ) (r : Reached) → reached_at rs number ≡ Some r → around_from rs (suc most) number ≡ r.def ∷ around_from rs most r.outer
around_next rs most number r at = ap (λ (o : Option Reached). option_map_or (λ (x : Reached). x.def ∷ around_from rs most x.outer) o []) at

around_stops : (rs : List Reached) (most number : ℕ) → reached_at rs number ≡ None → around_from rs most number ≡ []
around_stops rs zero number at = refl
around_stops rs (suc most) number at = ap (λ (o : Option Reached). option_map_or (λ (x : Reached). x.def ∷ around_from rs most x.outer) o []) at

-- one more name
pub more_names : (d : Dictionary) (rs : List Reached) (to counter number : ℕ) (r : Reached) (names next : List (Bor (List ℕ))) (name : Bor (List ℕ)) → counter < to → reached_at rs number ≡ Some r
    → next ≡ names ++ name ∷ [] → name.now ≡ name_at d r.def
    → now next ++ map (name_at d) (around_from rs (to - (counter + 1)) r.outer) ≡ now names ++ map (name_at d) (around_from rs (to - counter) number)
more_names d rs to counter number r names next name before at pushed is =
    let left : to - counter ≡ suc (to - (counter + 1)) = omega arith in
    let rest = map (name_at d) (around_from rs (to - (counter + 1)) r.outer) in
    ap (λ (xs : List (Bor (List ℕ))). now xs ++ rest) pushed
    ∙ ap (λ (xs : List (List ℕ)). xs ++ rest) (map_push (λ (x : Bor (List ℕ)). x.now) names name ∙ ap (λ (x : List ℕ). now names ++ x ∷ []) is)
    ∙ append_assoc (now names) (name_at d r.def ∷ []) rest
    ∙ ap (λ (xs : List ℕ). now names ++ map (name_at d) xs) (sym (ap (λ (n : ℕ). around_from rs n number) left ∙ around_next rs (to - (counter + 1)) number r at))

-- no more
pub all_names : (d : Dictionary) (rs : List Reached) (most number : ℕ) (names : List (Bor (List ℕ))) → around_from rs most number ≡ []
    → now names ≡ now names ++ map (name_at d) (around_from rs most number)
all_names d rs most number names none = sym (append-nil (now names)) ∙ ap (λ (xs : List ℕ). now names ++ map (name_at d) xs) (sym none)

pub names_stop : (d : Dictionary) (rs : List Reached) (most number : ℕ) (names : List (Bor (List ℕ))) → reached_at rs number ≡ None
    → now names ≡ now names ++ map (name_at d) (around_from rs most number)
names_stop d rs most number names at = all_names d rs most number names (around_stops rs most number at)

pub names_end : (d : Dictionary) (rs : List Reached) (to counter number : ℕ) (names : List (Bor (List ℕ))) → to ≤ counter
    → now names ≡ now names ++ map (name_at d) (around_from rs (to - counter) number)
names_end d rs to counter number names past =
    let none : to - counter ≡ 0 = omega arith in
    all_names d rs (to - counter) number names (ap (λ (n : ℕ). around_from rs n number) none)

-- the names of the whole path
pub path_names : (d : Dictionary) (rs : List Reached) (last : Reached) (none one all reversed : List (Bor (List ℕ))) (name : Bor (List ℕ)) → none ≡ [] → one ≡ none ++ name ∷ []
    → name.now ≡ name_at d last.def
    → now all ≡ now one ++ map (name_at d) (around_from rs (length rs) last.outer) → reversed ≡ reverse all → now reversed ≡ names_of d (path_of rs last)
path_names d rs last none one all reversed name empty pushed is around turned =
    let rest = map (name_at d) (around_from rs (length rs) last.outer) in
    let first : now one ≡ name_at d last.def ∷ [] = ap now (pushed ∙ ap (λ (xs : List (Bor (List ℕ))). xs ++ name ∷ []) empty) ∙ ap (λ (x : List ℕ). x ∷ []) is in
    ap now turned ∙ map-reverse (λ (x : Bor (List ℕ)). x.now) all ∙ ap reverse (around ∙ ap (λ (xs : List (List ℕ)). xs ++ rest) first)
