-- What two ends have in common, from either end.
use Rattle.std.proofs.Common.{◌≡◌, ℕ, ◌&&◌, ◌||◌, Bool, true, false, cond, List, [], ◌∷◌, nat_cmp, refl, sym, ap, ◌∙◌}
use Rattle.std.specs.List.{filter}
use Rattle.std.specs.Ordering.{is_eq}
use Rattle.std.proofs.lemmas.Bool.{eqb-true}
use Rattle.dia_follow.specs.Applications.{Apps, has, is_relay}
use Rattle.dia_follow.specs.Commons.{common_by}
use Rattle.dia_follow.specs.Opened.{CommonIsSymmetric, IsSameCommon}
use Rattle.dia_follow.proofs.Numbered.{is_at-eqb}

-- one more number: whether it passes, whether it is the one, whether the one is among the others, and whether the one passes
one_more : (passes here there it : Bool) (k n : ℕ) (left : List ℕ) → (here ≡ true → it ≡ passes) → is_eq (nat_cmp n k) ≡ here → has left n ≡ (there && it)
    → has (cond passes (k ∷ left) left) n ≡ ((here || there) && it)
one_more true true there it k n left same is h = ap (λ b. b || has left n) is ∙ sym (same refl)
one_more true false there it k n left same is h = ap (λ b. b || has left n) is ∙ h
one_more false true there it k n left same is h = h ∙ ap (λ b. there && b) (same refl) ∙ never there ∙ sym (same refl)
  where
    never : (b : Bool) → (b && false) ≡ false
    never true = refl
    never false = refl
one_more false false there it k n left same is h = h

-- the numbers that pass are those that are there and pass
has_passed : (test : ℕ → Bool) (numbers : List ℕ) (n : ℕ) → has (filter test numbers) n ≡ (has numbers n && test n)
has_passed test [] n = refl
has_passed test (k ∷ numbers) n =
    one_more (test k) (is_eq (nat_cmp n k)) (has numbers n) (test n) k n (filter test numbers)
    (λ is. ap test (eqb-true n k (sym (is_at-eqb n k) ∙ is))) refl (has_passed test numbers n)

and_swapped : (a b : Bool) → (a && b) ≡ (b && a)
and_swapped true true = refl
and_swapped true false = refl
and_swapped false true = refl
and_swapped false false = refl

in_both : (xs ys : List ℕ) (n : ℕ) → has (filter (has ys) xs) n ≡ has (filter (has xs) ys) n
in_both xs ys n = has_passed (has ys) xs n ∙ and_swapped (has xs n) (has ys n) ∙ sym (has_passed (has xs) ys n)

same_by : (a b : Bool) (ours theirs : Apps) → IsSameCommon (common_by a b ours theirs) (common_by b a theirs ours)
same_by true true ours theirs = tt
same_by true false ours theirs = record { auth = λ n. refl; acct = λ n. refl }
same_by false true ours theirs = record { auth = λ n. refl; acct = λ n. refl }
same_by false false ours theirs = record { auth = in_both ours.auth theirs.auth; acct = in_both ours.acct theirs.acct }

pub common_symmetric : CommonIsSymmetric
common_symmetric ours theirs = same_by (is_relay ours) (is_relay theirs) ours theirs
