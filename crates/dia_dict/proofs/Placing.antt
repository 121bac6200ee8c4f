-- Lists of parts, each with its place.
use Rattle.std.proofs.Common.{◌≡◌, ℕ, ◌+◌, ◌<◌, Bool, true, false, cond, List, [], ◌∷◌, ◌++◌, length, map, filter, find, take, get_or, None, refl, sym, ap, ◌∙◌, arith}
use Rattle.std.specs.Prelude.{if◌then◌else◌}
use Rattle.std.specs.List.{enumerate_from, list_any, flat_map}
use Rattle.std.specs.Option.{option_map}
use Rattle.std.proofs.lemmas.Grind.{flat_map-append}
use Rattle.std.proofs.lemmas.Simd.{map-map}
use Rattle.std.proofs.lemmas.List.{append_assoc, map-append, flat_map_more, take_more, length-take-le}
use Rattle.std.proofs.lemmas.List.Elements.{filter-append}
use Rattle.dia_book.proofs.Lists.{list_any-map}
use Rattle.dia_book.proofs.LookUpsByName.{find-map}
use Rattle.dia_dict.specs.declared.findings.Part.{Part}
use Rattle.dia_ccf.specs.Plain.{PlainDef, PlainSource}
use Rattle.dia_dict.specs.Resolution.{Wrong, PlainFinding, finding, placed, placed_groups, placed_commands, placed_defs, alone}

numbers-push : {X : Type 0} (n : ℕ) (xs : List X) (x : X) → enumerate_from n (xs ++ x ∷ []) ≡ enumerate_from n xs ++ (n + length xs, x) ∷ []
numbers-push {X} n [] x = let e : n ≡ n + 0 = omega arith in ap {B = List (ℕ × X)} (λ m. (m, x) ∷ []) e
numbers-push {X} n (y ∷ ys) x =
    let e : n + 1 + length ys ≡ n + length (y ∷ ys) = omega arith in
    ap {B = List (ℕ × X)} (λ zs. (n, y) ∷ zs) (numbers-push (n + 1) ys x ∙ ap {B = List (ℕ × X)} (λ m. enumerate_from (n + 1) ys ++ (m, x) ∷ []) e)

numbers-members : {X : Type 0} (n : ℕ) (xs : List X) → map (λ (p : ℕ × X). p.1) (enumerate_from n xs) ≡ xs
numbers-members n [] = refl
numbers-members n (x ∷ xs) = ap (λ ys. x ∷ ys) (numbers-members (n + 1) xs)

numbers-map : {X Y : Type 0} (f : X → Y) (n : ℕ) (xs : List X) → enumerate_from n (map f xs) ≡ map (λ (p : ℕ × X). (p.0, f p.1)) (enumerate_from n xs)
numbers-map f n [] = refl
numbers-map {X} {Y} f n (x ∷ xs) = ap {B = List (ℕ × Y)} (λ ys. (n, f x) ∷ ys) (numbers-map f (n + 1) xs)

module _ (at : ℕ → Part) where
  -- members of another form have the same places
  pub placed-map : {X Y : Type 0} (f : X → Y) (xs : List X) → placed at (map f xs) ≡ map (λ (p : Part × X). (p.0, f p.1)) (placed at xs)
  placed-map {X} {Y} f xs =
      ap (map (λ (n : ℕ × Y). (at n.0, n.1))) (numbers-map f 0 xs) ∙ map-map (λ (n : ℕ × Y). (at n.0, n.1)) (λ (n : ℕ × X). (n.0, f n.1)) (enumerate_from 0 xs)
      ∙ sym (map-map (λ (p : Part × X). (p.0, f p.1)) (λ (n : ℕ × X). (at n.0, n.1)) (enumerate_from 0 xs))

  placed-push : {X : Type 0} (xs : List X) (x : X) → placed at (xs ++ x ∷ []) ≡ placed at xs ++ (at (length xs), x) ∷ []
  placed-push {X} xs x =
      let e : 0 + length xs ≡ length xs = omega arith in
      ap (map (λ (n : ℕ × X). (at n.0, n.1))) (numbers-push 0 xs x ∙ ap {B = List (ℕ × X)} (λ m. enumerate_from 0 xs ++ (m, x) ∷ []) e)
      ∙ map-append (λ (n : ℕ × X). (at n.0, n.1)) (enumerate_from 0 xs) ((length xs, x) ∷ [])

  -- one part more in memory
  pub placed-next : {X : Type 0} (xs : List X) (i : ℕ) (x : X) → i < length xs → x ≡ get_or xs i x → placed at (take (i + 1) xs) ≡ placed at (take i xs) ++ (at i, x) ∷ []
  placed-next {X} xs i x within read =
      ap (placed at) (take_more xs i x within ∙ ap (λ y. take i xs ++ y ∷ []) (sym read)) ∙ placed-push (take i xs) x
      ∙ ap {B = List (Part × X)} (λ n. placed at (take i xs) ++ (at n, x) ∷ []) (length-take-le i xs (omega arith))

  -- the same for members of another form
  pub placed-more : {X Y : Type 0} (f : X → Y) (xs : List X) (i : ℕ) (x : X) → i < length xs → x ≡ get_or xs i x
      → placed at (map f (take (i + 1) xs)) ≡ placed at (map f (take i xs)) ++ (at i, f x) ∷ []
  placed-more {X} {Y} f xs i x within read =
      let move : Part × X → Part × Y = λ p. (p.0, f p.1) in
      placed-map f (take (i + 1) xs) ∙ ap (map move) (placed-next xs i x within read) ∙ map-append move (placed at (take i xs)) ((at i, x) ∷ [])
      ∙ ap (λ (ps : List (Part × Y)). ps ++ (at i, f x) ∷ []) (sym (placed-map f (take i xs)))

  -- a list that is made of them in a loop
  pub placed-made-by : {X Y Z K : Type 0} (view : Z → K) (g : Part × Y → K) (f : X → Y) (xs : List X) (i : ℕ) (x : X) (made next : List Z) (z : Z) → i < length xs → x ≡ get_or xs i x
      → map view made ≡ map g (placed at (map f (take i xs))) → view z ≡ g (at i, f x) → next ≡ made ++ z ∷ [] → map view next ≡ map g (placed at (map f (take (i + 1) xs)))
  placed-made-by {X} {Y} {Z} {K} view g f xs i x made next z within read so one more =
      ap (map view) more ∙ map-append view made (z ∷ []) ∙ ap (λ (ks : List K). ks ++ view z ∷ []) so
      ∙ ap (λ k. map g (placed at (map f (take i xs))) ++ k ∷ []) one
      ∙ sym (ap (map g) (placed-more f xs i x within read) ∙ map-append g (placed at (map f (take i xs))) ((at i, f x) ∷ []))

  pub placed-members : {X : Type 0} (xs : List X) → map (λ (p : Part × X). p.1) (placed at xs) ≡ xs
  placed-members {X} xs = map-map (λ (p : Part × X). p.1) (λ (n : ℕ × X). (at n.0, n.1)) (enumerate_from 0 xs) ∙ numbers-members 0 xs

  pub find-placed : {X : Type 0} (p : X → Bool) (xs : List X) → option_map (λ (x : Part × X). x.1) (find (λ x. p x.1) (placed at xs)) ≡ find p xs
  find-placed {X} p xs = sym (find-map (λ (x : Part × X). x.1) p (placed at xs)) ∙ ap (find p) (placed-members xs)

  pub any-placed : {X : Type 0} (p : X → Bool) (xs : List X) → list_any (λ x. p x.1) (placed at xs) ≡ list_any p xs
  any-placed {X} p xs = sym (list_any-map (λ (x : Part × X). x.1) p (placed at xs)) ∙ ap (list_any p) (placed-members xs)

-- ---- faults of those that pass a test

module _ {X : Type 0} (test : X → Bool) (bad : X → Wrong) where
  abbrev passes : Part × X → Bool
  passes x = test x.1

  abbrev records : Part × X → PlainFinding
  records x = finding (bad x.1) x.0 None

  pub alone-append : (xs ys : List (Part × X)) → alone test bad (xs ++ ys) ≡ alone test bad xs ++ alone test bad ys
  alone-append xs ys = ap (map records) (filter-append passes xs ys) ∙ map-append records (filter passes xs) (filter passes ys)

  alone-one : (x : Part × X) → alone test bad (x ∷ []) ≡ (if test x.1 then finding (bad x.1) x.0 None ∷ [] else [])
  alone-one x = by (test x.1)
    where
      by : (b : Bool) → map records (cond b (x ∷ []) []) ≡ (if b then finding (bad x.1) x.0 None ∷ [] else [])
      by true = refl
      by false = refl

  -- what is reported after one member more of a list in memory
  pub alone-more : {Y : Type 0} (at : ℕ → Part) (f : Y → X) (ys : List Y) (i : ℕ) (y : Y) (before recorded next : List PlainFinding) → i < length ys → y ≡ get_or ys i y
      → recorded ≡ before ++ alone test bad (placed at (map f (take i ys))) → next ≡ recorded ++ (if test (f y) then finding (bad (f y)) (at i) None ∷ [] else [])
      → next ≡ before ++ alone test bad (placed at (map f (take (i + 1) ys)))
  alone-more at f ys i y before recorded next within read so more =
      let all = alone test bad (placed at (map f (take i ys))) in
      let one : List PlainFinding = if test (f y) then finding (bad (f y)) (at i) None ∷ [] else [] in
      let longer = ap (alone test bad) (placed-more at f ys i y within read) ∙ alone-append (placed at (map f (take i ys))) ((at i, f y) ∷ [])
      ∙ ap (λ (fs : List PlainFinding). all ++ fs) (alone-one (at i, f y)) in
      more ∙ ap (λ (fs : List PlainFinding). fs ++ one) so ∙ append_assoc before all one ∙ ap (λ (fs : List PlainFinding). before ++ fs) (sym longer)

-- the same for parts that have their places, and a fault with more in it
pub chosen-more : {X Y : Type 0} (test : Y → Bool) (deliver : Y → PlainFinding) (view : X → Y) (xs : List X) (i : ℕ) (x : X) (before recorded next : List PlainFinding) → i < length xs → x ≡ get_or xs i x
    → recorded ≡ before ++ map deliver (filter test (map view (take i xs))) → next ≡ recorded ++ (if test (view x) then deliver (view x) ∷ [] else [])
    → next ≡ before ++ map deliver (filter test (map view (take (i + 1) xs)))
chosen-more {X} {Y} test deliver view xs i x before recorded next within read so more =
    let seen = map view (take i xs) in
    let all = map deliver (filter test seen) in
    let one : List PlainFinding = if test (view x) then deliver (view x) ∷ [] else [] in
    let longer = ap (map view) (take_more xs i x within ∙ ap (λ y. take i xs ++ y ∷ []) (sym read)) ∙ map-append view (take i xs) (x ∷ []) in
    more ∙ ap (λ (fs : List PlainFinding). fs ++ one) so ∙ append_assoc before all one
    ∙ ap (λ (fs : List PlainFinding). before ++ fs) (sym (ap (λ ys. map deliver (filter test ys)) longer ∙ ap (map deliver) (filter-append test seen (view x ∷ []))
    ∙ map-append deliver (filter test seen) (filter test (view x ∷ [])) ∙ ap (λ (fs : List PlainFinding). all ++ fs) (by (test (view x)))))
  where
    by : (b : Bool) → map deliver (cond b (view x ∷ []) []) ≡ (if b then deliver (view x) ∷ [] else [])
    by true = refl
    by false = refl

-- what is reported of each part, in a loop over a list in memory
pub recorded-more : {X Y : Type 0} (f : Part × Y → List PlainFinding) (at : ℕ → Part) (view : X → Y) (xs : List X) (i : ℕ) (x : X) (before recorded next : List PlainFinding)
    → i < length xs → x ≡ get_or xs i x → recorded ≡ before ++ flat_map f (placed at (map view (take i xs))) → next ≡ recorded ++ f (at i, view x)
    → next ≡ before ++ flat_map f (placed at (map view (take (i + 1) xs)))
recorded-more f at view xs i x before recorded next within read so more =
    more ∙ ap (λ (fs : List PlainFinding). fs ++ f (at i, view x)) so ∙ flat_map_more f before (placed at (map view (take i xs))) (at i, view x)
    ∙ ap (λ ys. before ++ flat_map f ys) (sym (placed-more at view xs i x within read))

-- ---- groups and then commands

pub recorded-of-defs : (f : Part × PlainDef → List PlainFinding) (s : PlainSource) (before recorded : List PlainFinding)
    → recorded ≡ before ++ flat_map f (placed_groups s) → recorded ++ flat_map f (placed_commands s) ≡ before ++ flat_map f (placed_defs s)
recorded-of-defs f s before recorded so =
    ap (λ (fs : List PlainFinding). fs ++ flat_map f (placed_commands s)) so ∙ append_assoc before (flat_map f (placed_groups s)) (flat_map f (placed_commands s))
    ∙ ap (λ (fs : List PlainFinding). before ++ fs) (sym (flat_map-append f (placed_groups s) (placed_commands s)))
