-- Lists that are made of parts, one behind another.
use Rattle.std.proofs.Common.{ℕ, ◌+◌, ◌<◌, List, [], ◌∷◌, ◌++◌, length, take, get_or, refl, sym, ap, subst, ◌∙◌, append_assoc}
use Rattle.std.specs.List.{AllByRecursion}
use Rattle.std.proofs.lemmas.List.{append-nil, take_more}
use Rattle.dia_upgrades.specs.Recorded.{AreBothParts, AreParts}

pub split : {Y : Type 0} (P : Y → Type 0) (front rest : List Y) → AllByRecursion P (front ++ rest) → AllByRecursion P front × AllByRecursion P rest
split P [] rest all = (tt, all)
split P (y ∷ front) rest (here, all) = let both = split P front rest all in ((here, both.0), both.1)

module _ {X Y : Type 0} (is : X → List Y → Type 0) where
  one_after : (xs : List X) (x : X) (old more : List Y) → AreParts is xs old → is x more → AreParts is (xs ++ x ∷ []) (old ++ more)
  one_after [] x old more none is_x = (more, [], is_x, refl, ap (λ (o : List Y). o ++ more) none ∙ sym (append-nil more))
  one_after (y ∷ xs) x old more (front, rest, is_y, are, e) is_x =
      (front, rest ++ more, is_y, one_after xs x rest more are is_x, ap (λ (o : List Y). o ++ more) e ∙ append_assoc front rest more)

  pub one_more : (xs : List X) (i : ℕ) (d : X) (old more : List Y) → i < length xs → AreParts is (take i xs) old → is (get_or xs i d) more → AreParts is (take (i + 1) xs) (old ++ more)
  one_more xs i d old more less are is_x =
      subst (λ (ys : List X). AreParts is ys (old ++ more)) (sym (take_more xs i d less)) (one_after (take i xs) (get_or xs i d) old more are is_x)

  -- parts of the first members, and parts of the others
  pub both_ends : (xs ys : List X) (old more : List Y) → AreParts is xs old → AreParts is ys more → AreParts is (xs ++ ys) (old ++ more)
  both_ends [] ys old more none are = subst (AreParts is ys) (ap (λ (o : List Y). o ++ more) (sym none)) are
  both_ends (x ∷ xs) ys old more (front, rest, is_x, are, e) others =
      (front, rest ++ more, is_x, both_ends xs ys rest more are others, ap (λ (o : List Y). o ++ more) e ∙ append_assoc front rest more)

  -- each member has a part
  pub all_parts : (part : X → List Y) → ((x : X) → is x (part x)) → (xs : List X) → (ys : List Y) × AreParts is xs ys
  all_parts part has [] = ([], refl)
  all_parts part has (x ∷ xs) = let more = all_parts part has xs in (part x ++ more.0, (part x, more.0, has x, more.1, refl))

  -- what holds of all members holds of those of each part
  pub of_parts : (P : Y → Type 0) (Q : X → Type 0) → ((x : X) (ys : List Y) → is x ys → AllByRecursion P ys → Q x) → (xs : List X) (ys : List Y) → AreParts is xs ys → AllByRecursion P ys
      → AllByRecursion Q xs
  of_parts P Q each [] ys none all = tt
  of_parts P Q each (x ∷ xs) ys (front, rest, is_x, are, e) all =
      let both = split P front rest (subst (AllByRecursion P) e all) in (each x front is_x both.0, of_parts P Q each xs rest are both.1)

-- ---- two lists

module _ {X Y : Type 0} (is : X → ℕ → ℕ → List Y → List Y → Type 0) where
  both_after : (xs : List X) (x : X) (budget next following : ℕ) (old other more others : List Y) → AreBothParts is xs budget next old other → is x next following more others
      → AreBothParts is (xs ++ x ∷ []) budget following (old ++ more) (other ++ others)
  both_after [] x budget next following old other more others (same, none, no_other) is_x = (
    following,
    more,
    others,
    [],
    [],
    subst (λ (n : ℕ). is x n following more others) same is_x,
    (refl, refl, refl),
    ap (λ (o : List Y). o ++ more) none ∙ sym (append-nil more),
    ap (λ (o : List Y). o ++ others) no_other ∙ sym (append-nil others),
  )
  both_after (y ∷ xs) x budget next following old other more others (then, front, first, rest, last, is_y, are, e, f) is_x = (
    then,
    front,
    first,
    rest ++ more,
    last ++ others,
    is_y,
    both_after xs x then next following rest last more others are is_x,
    ap (λ (o : List Y). o ++ more) e ∙ append_assoc front rest more,
    ap (λ (o : List Y). o ++ others) f ∙ append_assoc first last others,
  )

  pub both_more : (xs : List X) (i : ℕ) (d : X) (budget next following : ℕ) (old other more others : List Y) → i < length xs → AreBothParts is (take i xs) budget next old other
      → is (get_or xs i d) next following more others → AreBothParts is (take (i + 1) xs) budget following (old ++ more) (other ++ others)
  both_more xs i d budget next following old other more others less are is_x =
      subst (λ (ys : List X). AreBothParts is ys budget following (old ++ more) (other ++ others)) (sym (take_more xs i d less))
      (both_after (take i xs) (get_or xs i d) budget next following old other more others are is_x)

  -- what holds of all members of the first holds of those of each of its parts
  pub of_both_parts : (P : Y → Type 0) (Q : X → Type 0) → ((x : X) (budget following : ℕ) (ys zs : List Y) → is x budget following ys zs → AllByRecursion P ys → Q x) → (xs : List X) (budget following : ℕ)
      (ys zs : List Y) → AreBothParts is xs budget following ys zs → AllByRecursion P ys → AllByRecursion Q xs
  of_both_parts P Q each [] budget following ys zs none all = tt
  of_both_parts P Q each (x ∷ xs) budget following ys zs (next, front, other, rest, others, is_x, are, e, f) all =
      let both = split P front rest (subst (AllByRecursion P) e all) in (each x budget next front other is_x both.0, of_both_parts P Q each xs next following rest others are both.1)
