-- The members of a list that are like no earlier one.
use Rattle.std.proofs.Common.{◌≡◌, Bool, true, false, cond, List, [], ◌∷◌, ◌++◌, map, find, Option, Some, None, refl, sym, ap, ◌∙◌}
use Rattle.std.specs.Prelude.{◌||◌, is_some}
use Rattle.std.specs.Cmp.{IsEquivalence}
use Rattle.std.specs.List.{list_any, list_all}
use Rattle.std.specs.Option.{option_map_or}
use Rattle.std.proofs.lemmas.Bool.{and_parts, and_from}
use Rattle.std.proofs.lemmas.List.{append_assoc, append-nil, map-append}
use Rattle.std.proofs.lemmas.List.Folds.{list_any-append}
use Rattle.std.proofs.lemmas.Map.Steps.{list_any_congr}
use Rattle.dia_book.proofs.Lists.{list_any-map}
use Rattle.dia_book.proofs.Members.{find-is_some}
use Rattle.dia_dict.specs.Resolution.{repeats, firsts}

pub firsts-append : {X : Type 0} (same : X → X → Bool) (earlier xs ys : List X) → firsts same earlier (xs ++ ys) ≡ firsts same earlier xs ++ firsts same (earlier ++ xs) ys
firsts-append same earlier [] ys = ap (λ zs. firsts same zs ys) (sym (append-nil earlier))
firsts-append {X} same earlier (x ∷ xs) ys =
    by (list_any (same x) earlier) (firsts-append same (earlier ++ x ∷ []) xs ys ∙ ap (λ zs. firsts same (earlier ++ x ∷ []) xs ++ firsts same zs ys) (append_assoc earlier (x ∷ []) xs))
  where
    by : (b : Bool) → firsts same (earlier ++ x ∷ []) (xs ++ ys) ≡ firsts same (earlier ++ x ∷ []) xs ++ firsts same (earlier ++ x ∷ xs) ys
        → cond b (firsts same (earlier ++ x ∷ []) (xs ++ ys)) (x ∷ firsts same (earlier ++ x ∷ []) (xs ++ ys))
        ≡ cond b (firsts same (earlier ++ x ∷ []) xs) (x ∷ firsts same (earlier ++ x ∷ []) xs) ++ firsts same (earlier ++ x ∷ xs) ys
    by true e = e
    by false e = ap (λ zs. x ∷ zs) e

pub firsts-map : {X Y : Type 0} (f : X → Y) (same : Y → Y → Bool) (earlier xs : List X) → firsts same (map f earlier) (map f xs) ≡ map f (firsts (λ a b. same (f a) (f b)) earlier xs)
firsts-map f same earlier [] = refl
firsts-map {X} {Y} f same earlier (x ∷ xs) =
    by (list_any (λ y. same (f x) (f y)) earlier) (list_any (same (f x)) (map f earlier)) (list_any-map f (same (f x)) earlier)
    (ap (λ zs. firsts same zs (map f xs)) (sym (map-append f earlier (x ∷ []))) ∙ firsts-map f same (earlier ++ x ∷ []) xs)
  where
    by : (b c : Bool) → c ≡ b → firsts same (map f earlier ++ f x ∷ []) (map f xs) ≡ map f (firsts (λ p q. same (f p) (f q)) (earlier ++ x ∷ []) xs)
        → cond c (firsts same (map f earlier ++ f x ∷ []) (map f xs)) (f x ∷ firsts same (map f earlier ++ f x ∷ []) (map f xs))
        ≡ map f (cond b (firsts (λ p q. same (f p) (f q)) (earlier ++ x ∷ []) xs) (x ∷ firsts (λ p q. same (f p) (f q)) (earlier ++ x ∷ []) xs))
    by true c s e = rw s e
    by false c s e = rw s (ap (λ zs. f x ∷ zs) e)

-- where nothing repeats, each member is a first
pub firsts-all : {X : Type 0} (same : X → X → Bool) (earlier xs : List X) → repeats same earlier xs ≡ [] → firsts same earlier xs ≡ xs
firsts-all same earlier [] none = refl
firsts-all {X} same earlier (x ∷ xs) none = by (find (same x) earlier) refl (firsts-all same (earlier ++ x ∷ []) xs) none
  where
    by : (o : Option X) → find (same x) earlier ≡ o → (repeats same (earlier ++ x ∷ []) xs ≡ [] → firsts same (earlier ++ x ∷ []) xs ≡ xs)
        → option_map_or (λ y. (x, y) ∷ repeats same (earlier ++ x ∷ []) xs) o (repeats same (earlier ++ x ∷ []) xs) ≡ []
        → cond (list_any (same x) earlier) (firsts same (earlier ++ x ∷ []) xs) (x ∷ firsts same (earlier ++ x ∷ []) xs) ≡ x ∷ xs
    by (Some y) here rest e = absurd (let p : (x, y) ∷ repeats same (earlier ++ x ∷ []) xs ≡ [] = e in cc)
    by None here rest e =
        ap (λ b. cond b (firsts same (earlier ++ x ∷ []) xs) (x ∷ firsts same (earlier ++ x ∷ []) xs)) (sym (find-is_some (same x) earlier) ∙ ap (λ (o : Option X). is_some o) here)
        ∙ ap (λ zs. x ∷ zs) (rest e)

-- a test that all members pass, the firsts pass
pub list_all-firsts : {X : Type 0} (p : X → Bool) (same : X → X → Bool) (earlier xs : List X) → list_all p xs ≡ true → list_all p (firsts same earlier xs) ≡ true
list_all-firsts p same earlier [] all = refl
list_all-firsts {X} p same earlier (x ∷ xs) all =
    let parts = and_parts (p x) (list_all p xs) all in
    by (list_any (same x) earlier) parts.0 (list_all-firsts p same (earlier ++ x ∷ []) xs parts.1)
  where
    by : (b : Bool) → p x ≡ true → list_all p (firsts same (earlier ++ x ∷ []) xs) ≡ true
        → list_all p (cond b (firsts same (earlier ++ x ∷ []) xs) (x ∷ firsts same (earlier ++ x ∷ []) xs)) ≡ true
    by true here rest = rest
    by false here rest = and_from _ _ here rest

-- ---- what is found by a key is a first of its key

module _ {X T : Type 0} (key : X → T) (eq : T → T → Bool) (laws : IsEquivalence eq) (k : T) where
  abbrev bears : X → Bool
  bears x = eq k (key x)

  abbrev alike : X → X → Bool
  alike a b = eq (key a) (key b)

  fresh-more : (earlier : List X) (x : X) → list_any bears earlier ≡ false → bears x ≡ false → list_any bears (earlier ++ x ∷ []) ≡ false
  fresh-more earlier x before here = list_any-append bears earlier (x ∷ []) ∙ ap (λ b. b || (bears x || false)) before ∙ ap (λ b. b || false) here

  -- a member with this key, where none before it has it, is a first
  first-bears : (earlier : List X) (x : X) → list_any bears earlier ≡ false → bears x ≡ true → list_any (alike x) earlier ≡ false
  first-bears earlier x before here =
      sym (list_any-map key (eq (key x)) earlier) ∙ sym (list_any_congr laws k (key x) (map key earlier) here) ∙ list_any-map key (eq k) earlier ∙ before

  find-from : (earlier xs : List X) → list_any bears earlier ≡ false → find bears (firsts alike earlier xs) ≡ find bears xs
  find-from earlier [] before = refl
  find-from earlier (x ∷ xs) before = by (bears x) (list_any (alike x) earlier) refl refl (find-from (earlier ++ x ∷ []) xs)
    where
      by : (b c : Bool) → bears x ≡ b → list_any (alike x) earlier ≡ c → (list_any bears (earlier ++ x ∷ []) ≡ false → find bears (firsts alike (earlier ++ x ∷ []) xs) ≡ find bears xs)
          → find bears (cond c (firsts alike (earlier ++ x ∷ []) xs) (x ∷ firsts alike (earlier ++ x ∷ []) xs)) ≡ cond b (Some x) (find bears xs)
      by true true here seen rest = absurd (let e : true ≡ false = sym seen ∙ first-bears earlier x before here in cc)
      by true false here seen rest = ap (λ b. cond b (Some x) (find bears (firsts alike (earlier ++ x ∷ []) xs))) here
      by false true here seen rest = rest (fresh-more earlier x before here)
      by false false here seen rest = ap (λ b. cond b (Some x) (find bears (firsts alike (earlier ++ x ∷ []) xs))) here ∙ rest (fresh-more earlier x before here)

  pub find-firsts : (xs : List X) → find (λ x. eq k (key x)) (firsts (λ a b. eq (key a) (key b)) [] xs) ≡ find (λ x. eq k (key x)) xs
  find-firsts xs = find-from [] xs refl
