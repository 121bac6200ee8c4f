-- Tests of lists.
use Rattle.std.proofs.Common.{◌≡◌, ℕ, zero, suc, ◌+◌, ◌<◌, ◌≤◌, Bool, true, false, cond, List, [], ◌∷◌, ◌++◌, length, map, take, get_or, Option, Some, None, refl, sym, ap, ◌∙◌, arith, append-nil}
use Rattle.std.specs.Prelude.{◌||◌, find}
use Rattle.std.specs.List.{flat_map, list_any}
use Rattle.std.specs.Option.{option_map}
use Rattle.std.proofs.Math.Path.{fun_ext}
use Rattle.std.proofs.lemmas.List.{take_all, take_more}
use Rattle.std.proofs.lemmas.List.Concat.{flat_map-append}
use Rattle.std.proofs.lemmas.List.Folds.{list_any-append, list_any_at, list_any_more}
use Rattle.std.proofs.lemmas.Bool.{or_from}
use Rattle.std.proofs.lemmas.Option.{none-some, same_Some}

-- ---- two tests

or_four : (a b c d : Bool) → ((a || b) || (c || d)) ≡ ((a || c) || (b || d))
or_four true b c d = refl
or_four false true true d = refl
or_four false true false d = refl
or_four false false c d = refl

or_three : (a b c : Bool) → (a || (b || c)) ≡ ((a || b) || c)
or_three true b c = refl
or_three false b c = refl

or_false : (a : Bool) → a ≡ (a || false)
or_false true = refl
or_false false = refl

pub list_any_or : {X : Type 0} (p q : X → Bool) (xs : List X) → list_any (λ x. p x || q x) xs ≡ (list_any p xs || list_any q xs)
list_any_or p q [] = refl
list_any_or p q (x ∷ xs) = ap (λ (b : Bool). (p x || q x) || b) (list_any_or p q xs) ∙ or_four (p x) (q x) (list_any p xs) (list_any q xs)

-- what is added to a set
pub more_marked : {X : Type 0} (all : Bool) (old new add : X → Bool) (xs : List X) → ((x : X) → new x ≡ (old x || add x)) → (all || list_any new xs) ≡ ((all || list_any old xs) || list_any add xs)
more_marked {X} all old new add xs h =
    ap (λ (p : X → Bool). all || list_any p xs) (fun_ext h) ∙ ap (λ (b : Bool). all || b) (list_any_or old add xs) ∙ or_three all (list_any old xs) (list_any add xs)

pub all_marked : (b : Bool) → true ≡ (b || true)
all_marked true = refl
all_marked false = refl

-- ---- loops that add

-- where what one step adds was found by a test of the next element
pub any_next : {X : Type 0} (p : X → Bool) (xs : List X) (i : ℕ) (d : X) (first old new : Bool) → i < length xs → new ≡ (old || p (get_or xs i d)) → old ≡ (first || list_any p (take i xs)) → new ≡ (first || list_any p (take (i + 1) xs))
any_next p xs i d first old new within step before =
    step ∙ ap (λ (b : Bool). b || p (get_or xs i d)) before ∙ sym (or_three first (list_any p (take i xs)) (p (get_or xs i d))) ∙ ap (λ (b : Bool). first || b) (sym (list_any_more p xs i d within))

-- the same of an element by its name
pub any_next_of : {X : Type 0} (p : X → Bool) (xs : List X) (i : ℕ) (x : X) (first old new : Bool) → i < length xs → x ≡ get_or xs i x → new ≡ (old || p x) → old ≡ (first || list_any p (take i xs)) → new ≡ (first || list_any p (take (i + 1) xs))
any_next_of {X} p xs i x first old new within at step before = any_next p xs i x first old new within (step ∙ ap (λ (y : X). old || p y) at) before

pub any_first : {X : Type 0} (p : X → Bool) (first : Bool) → first ≡ (first || list_any p [])
any_first p first = or_false first

cond_or : (t old : Bool) → cond t true old ≡ (old || t)
cond_or true true = refl
cond_or true false = refl
cond_or false true = refl
cond_or false false = refl

pub put_step : (new t old : Bool) → new ≡ cond t true old → new ≡ (old || t)
put_step new t old is = is ∙ cond_or t old

-- of all that elements have
pub any_of_next : {X Y : Type 0} (f : X → List Y) (p : Y → Bool) (xs : List X) (i : ℕ) (d : X) (old new : Bool) → i < length xs → new ≡ (old || list_any p (f (get_or xs i d))) → old ≡ list_any p (flat_map f (take i xs))
    → new ≡ list_any p (flat_map f (take (i + 1) xs))
any_of_next {X} {Y} f p xs i d old new within step before =
    step ∙ ap (λ (b : Bool). b || list_any p (f (get_or xs i d))) before ∙ sym (list_any-append p (flat_map f (take i xs)) (f (get_or xs i d)))
    ∙ ap (λ (ys : List Y). list_any p (flat_map f (take i xs) ++ ys)) (sym (append-nil (f (get_or xs i d))))
    ∙ ap (list_any p) (sym (flat_map-append f (take i xs) (get_or xs i d ∷ []))) ∙ ap (λ (ys : List X). list_any p (flat_map f ys)) (sym (take_more xs i d within))

-- ---- the first

find_by : {X Y : Type 0} (f : X → Y) (b : Bool) (x : X) (o : Option X) (q : Option Y) → q ≡ option_map f o → cond b (Some (f x)) q ≡ option_map f (cond b (Some x) o)
find_by f true x o q e = refl
find_by f false x o q e = e

pub find_mapped : {X Y : Type 0} (p : Y → Bool) (f : X → Y) (xs : List X) → find p (map f xs) ≡ option_map f (find (λ x. p (f x)) xs)
find_mapped p f [] = refl
find_mapped p f (x ∷ xs) = find_by f (p (f x)) x (find (λ y. p (f y)) xs) (find p (map f xs)) (find_mapped p f xs)

pub find_none_next : {X : Type 0} (p : X → Bool) (xs : List X) (i : ℕ) (d : X) → i < length xs → find p (take i xs) ≡ None → p (get_or xs i d) ≡ false → find p (take (i + 1) xs) ≡ None
find_none_next {X} p xs i d within none fails = ap (find p) (take_more xs i d within) ∙ by (take i xs) none
  where
    last : (b : Bool) → b ≡ false → cond b (Some (get_or xs i d)) None ≡ None
    last true e = absurd cc
    last false e = refl

    step : (b : Bool) (y : X) (o n : Option X) → cond b (Some y) o ≡ None → (o ≡ None → n ≡ None) → cond b (Some y) n ≡ None
    step true y o n e ih = absurd (none-some y (sym e))
    step false y o n e ih = ih e

    by : (ys : List X) → find p ys ≡ None → find p (ys ++ get_or xs i d ∷ []) ≡ None
    by [] e = last (p (get_or xs i d)) fails
    by (y ∷ ys) e = step (p y) y (find p ys) (find p (ys ++ get_or xs i d ∷ [])) e (by ys)

pub find_first : {X : Type 0} (p : X → Bool) (xs : List X) (i : ℕ) (d : X) → i < length xs → find p (take i xs) ≡ None → p (get_or xs i d) ≡ true → find p xs ≡ Some (get_or xs i d)
find_first p [] i d within none passes = absurd (omega arith)
find_first p (x ∷ xs) zero d within none passes = by (p x) passes
  where
    by : (b : Bool) → b ≡ true → cond b (Some x) (find p xs) ≡ Some x
    by true e = refl
    by false e = absurd cc
find_first {X} p (x ∷ xs) (suc i) d within none passes = by (p x) none (λ e. find_first p xs i d (omega arith) e passes)
  where
    by : (b : Bool) → cond b (Some x) (find p (take i xs)) ≡ None → (find p (take i xs) ≡ None → find p xs ≡ Some (get_or xs i d)) → cond b (Some x) (find p xs) ≡ Some (get_or xs i d)
    by true e ih = absurd (none-some x (sym e))
    by false e ih = ih e

pub find_passes : {X : Type 0} (p : X → Bool) (xs : List X) (x : X) → find p xs ≡ Some x → p x ≡ true
find_passes p [] x e = absurd (none-some x e)
find_passes {X} p (y ∷ xs) x e = by (p y) refl e (find_passes p xs x)
  where
    by : (b : Bool) → p y ≡ b → cond b (Some y) (find p xs) ≡ Some x → (find p xs ≡ Some x → p x ≡ true) → p x ≡ true
    by true is same ih = ap p (sym (same_Some y x same)) ∙ is
    by false is rest ih = ih rest

-- ---- loops that search

pub none_next : {X : Type 0} (p : X → Bool) (xs : List X) (i : ℕ) (d : X) (found : Bool) → i < length xs → found ≡ p (get_or xs i d) → found ≡ false → list_any p (take i xs) ≡ false → list_any p (take (i + 1) xs) ≡ false
none_next p xs i d found within is fails before = list_any_more p xs i d within ∙ or_from (list_any p (take i xs)) (p (get_or xs i d)) before (sym is ∙ fails)

pub some_here : {X : Type 0} (p : X → Bool) (xs : List X) (i : ℕ) (d : X) (found : Bool) → i < length xs → found ≡ p (get_or xs i d) → found ≡ true → true ≡ list_any p xs
some_here p xs i d found within is passes = sym (list_any_at p xs i d within (sym is ∙ passes))

pub none_there : {X : Type 0} (p : X → Bool) (xs : List X) (i : ℕ) → length xs ≤ i → list_any p (take i xs) ≡ false → false ≡ list_any p xs
none_there {X} p xs i past none = sym none ∙ ap (list_any p) (take_all i xs past)

-- lists in values
module _ {V S : Type 0} (there : S → Bool) (lists : List V) (items : V → List S) (i : ℕ) where
  pub list_fails : (v : V) (found : Bool) (slice : List S) → i < length lists → v ≡ get_or lists i v → found ≡ list_any there slice → slice ≡ items v → found ≡ false → find (λ v. list_any there (items v)) (take i lists) ≡ None
      → find (λ v. list_any there (items v)) (take (i + 1) lists) ≡ None
  list_fails v found slice within at is same fails none =
      find_none_next (λ v. list_any there (items v)) lists i v within none (ap (λ (u : V). list_any there (items u)) (sym at) ∙ ap (list_any there) (sym same) ∙ sym is ∙ fails)

  pub list_found : (v : V) (found : Bool) (slice own : List S) → i < length lists → v ≡ get_or lists i v → found ≡ list_any there slice → slice ≡ items v → own ≡ items v → found ≡ true
      → find (λ v. list_any there (items v)) (take i lists) ≡ None → Some own ≡ find (list_any there) (map items lists)
  list_found v found slice own within at is same whole passes none =
      ap (λ (ls : List S). Some ls) (whole ∙ ap items at)
      ∙ sym (find_mapped (list_any there) items lists
      ∙ ap (option_map items) (find_first (λ v. list_any there (items v)) lists i v within none (ap (λ (u : V). list_any there (items u)) (sym at) ∙ ap (list_any there) (sym same) ∙ sym is ∙ passes)))

  pub list_none : length lists ≤ i → find (λ v. list_any there (items v)) (take i lists) ≡ None → None ≡ find (list_any there) (map items lists)
  list_none past none =
      sym (find_mapped (list_any there) items lists ∙ ap (option_map items) (ap (find (λ v. list_any there (items v))) (sym (take_all i lists past)) ∙ none))
