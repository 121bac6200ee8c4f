-- Functions of lists, by one member more.
use Rattle.std.proofs.Common.{◌≡◌, false, ℕ, ◌+◌, ◌<◌, get_or, List, [], ◌∷◌, ◌++◌, length, map, take, Option, Some, None, Result, Ok, Err, sym, ap, subst, ◌∙◌, append_assoc}
use Rattle.std.specs.Prelude.{◌↔◌, All, Contains, IfOk, IsSome, IsTrue, slice_get}
use Rattle.std.specs.List.{filter_map, flat_map}
use Rattle.std.specs.Option.{option_map}
use Rattle.std.proofs.lemmas.Grind.{flat_map-append}
use Rattle.std.proofs.lemmas.Option.{same_Some, slice_get_within, slice_get-get_or, slice_get-map}
use Rattle.std.proofs.lemmas.List.{append-nil, map-append, take_more}
use Rattle.std.proofs.lemmas.List.Elements.{All-nil, All-push, filter_map-append}
use Rattle.dia_book.proofs.Members.{at_Contains, at_map}
use Rattle.dia_breaking_sites.proofs.Members.{in_at, contains_in}

pub one_more : {X : Type 0} (xs : List X) (i : ℕ) (x : X) → slice_get xs i ≡ Some x → take (i + 1) xs ≡ take i xs ++ x ∷ []
one_more {X} xs i x at =
    let within = slice_get_within xs i x at in
    take_more xs i x within ∙ ap (λ (y : X). take i xs ++ y ∷ []) (same_Some (get_or xs i x) x (sym (slice_get-get_or xs i x within) ∙ at))

-- one member more
pub filter_map_more : {X Y : Type 0} (f : X → Option Y) (xs : List X) (i : ℕ) (x : X) → slice_get xs i ≡ Some x → filter_map f (take (i + 1) xs) ≡ filter_map f (take i xs) ++ filter_map f (x ∷ [])
filter_map_more f xs i x at = ap (filter_map f) (one_more xs i x at) ∙ filter_map-append f (take i xs) (x ∷ [])

-- what is added for one member more
pub added : {X Y : Type 0} (f : X → Option Y) (xs : List X) (i : ℕ) (x : X) (old new : List Y) → new ≡ old ++ filter_map f (x ∷ []) → old ≡ filter_map f (take i xs) → slice_get xs i ≡ Some x
    → new ≡ filter_map f (take (i + 1) xs)
added {X} {Y} f xs i x old new is before at = is ∙ ap (λ (ys : List Y). ys ++ filter_map f (x ∷ [])) before ∙ sym (filter_map_more f xs i x at)

-- what is written of one member more
pub written_more : {X Y : Type 0} (f : X → List Y) (start old new : List Y) (xs : List X) (i : ℕ) (d : X) → i < length xs → new ≡ old ++ f (get_or xs i d) → old ≡ start ++ flat_map f (take i xs)
    → new ≡ start ++ flat_map f (take (i + 1) xs)
written_more {X} {Y} f start old new xs i d within is before =
    is ∙ ap (λ (ys : List Y). ys ++ f (get_or xs i d)) before ∙ append_assoc start (flat_map f (take i xs)) (f (get_or xs i d))
    ∙ ap (λ (ys : List Y). start ++ (flat_map f (take i xs) ++ ys)) (sym (append-nil (f (get_or xs i d))))
    ∙ ap (λ (ys : List Y). start ++ ys) (sym (flat_map-append f (take i xs) (get_or xs i d ∷ []))) ∙ ap (λ (zs : List X). start ++ flat_map f zs) (sym (take_more xs i d within))

-- what follows from two facts of a value
pub when_two : {X E : Type 0} (P R Q : X → Type 0) (r : Result X E) → ((x : X) → P x → R x → Q x) → IfOk r P → IfOk r R → IfOk r Q
when_two P R Q (Ok x) f h k = f x h k
when_two P R Q (Err e) f h k = tt

pub when_three : {X E : Type 0} (P R S Q : X → Type 0) (r : Result X E) → ((x : X) → P x → R x → S x → Q x) → IfOk r P → IfOk r R → IfOk r S → IfOk r Q
when_three P R S Q (Ok x) f h k l = f x h k l
when_three P R S Q (Err e) f h k l = tt

-- ---- all members

pub all_in : {X : Type 0} (P : X → Type 0) (xs : List X) (x : X) → All P xs → Contains xs x → P x
all_in P xs x all (i, within, is) = subst P is (all i x within)

pub contains_at : {X : Type 0} (xs : List X) (i : ℕ) (x : X) → slice_get xs i ≡ Some x → Contains xs x
contains_at xs i x at = contains_in xs x (in_at xs i x at)

pub at_place : {X : Type 0} (xs : List X) (i : ℕ) (x : X) → i < length xs → x ≡ get_or xs i x → slice_get xs i ≡ Some x
at_place xs i x within is = slice_get-get_or xs i x within ∙ ap (λ y. Some y) (sym is)

-- ---- images

-- where two lists have one image, members of the first have others of the second with theirs
pub same_image : {X Y : Type 0} (f : X → Y) (xs ys : List X) (x : X) → map f xs ≡ map f ys → Contains xs x → (y : X) × Contains ys y × (f y ≡ f x)
same_image f xs ys x same inside =
    let p = at_Contains xs x inside in
    let r = at_map f ys p.place (f x) (ap (λ (zs : List _). slice_get zs p.place) (sym same) ∙ slice_get-map f xs p.place ∙ ap (option_map f) p.at) in
    (r.0, contains_at ys p.place r.0 r.1, r.2)

pub all_more : {X : Type 0} (P : X → Type 0) (xs : List X) (x : X) (new : List X) → new ≡ xs ++ x ∷ [] → All P xs → P x → All P new
all_more P xs x new is all own = subst (All P) (sym is) (All-push P xs x all own)

pub none_of : {X : Type 0} (P : X → Type 0) (xs : List X) → xs ≡ [] → All P xs
none_of P xs is = subst (All P) (sym is) (All-nil P)

-- one more of each
pub image_more : {X Y : Type 0} (f : X → Y) (old new ys : List X) (i : ℕ) (x d : X) → new ≡ old ++ x ∷ [] → i < length ys → f x ≡ f (get_or ys i d) → map f old ≡ map f (take i ys)
    → map f new ≡ map f (take (i + 1) ys)
image_more {X} {Y} f old new ys i x d is within same before =
    ap (map f) is ∙ map-append f old (x ∷ []) ∙ ap (λ (zs : List Y). zs ++ f x ∷ []) before ∙ ap (λ (y : Y). map f (take i ys) ++ y ∷ []) same
    ∙ sym (ap (map f) (take_more ys i d within) ∙ map-append f (take i ys) (get_or ys i d ∷ []))

pub when_ok : {X E : Type 0} (P Q : X → Type 0) (r : Result X E) → ((x : X) → P x → Q x) → IfOk r P → IfOk r Q
when_ok P Q (Ok x) f h = f x h
when_ok P Q (Err e) f h = tt

-- a test that fails says that it isn't so
pub not_so : (X : Type 0) → ¬ X → IsTrue false ↔ X
not_so X never = (λ e. absurd cc, λ x. absurd (never x))

pub not_none : {X : Type 0} (o : Option X) → IsSome o → ¬ (o ≡ None)
not_none (Some x) some is = cc
not_none None some is = cc
