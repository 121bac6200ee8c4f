-- The partner of a place.
use Rattle.std.proofs.Common.{◌≡◌, ℕ, ◌<◌, Bool, true, false, cond, ltb, List, Option, Some, None, refl, sym, ap, subst, ◌∙◌}
use Rattle.std.specs.Prelude.{IfSome, IsSome, is_some, option_and_then, slice_get, position}
use Rattle.std.proofs.lemmas.Bool.{ltb-true, lt-ltb}
use Rattle.std.proofs.lemmas.Option.{none-some, same_Some}
use Rattle.dia_book.proofs.Members.{position-is_some}
use Rattle.dia_valid.proofs.Entries.{at_position}
use Rattle.dia_valid.proofs.Members.{at_some, some_of, when_some}
use Rattle.dia_differences.specs.Matching.{At, below, partner_of}

below_there : (n j k : ℕ) (b : Bool) → ltb k n ≡ b → cond b (Some k) None ≡ Some j → (k ≡ j) × (j < n)
below_there n j k false test e = absurd (none-some j e)
below_there n j k true test e = let same : k ≡ j = same_Some k j e in (same, subst (λ (m : ℕ). m < n) same (ltb-true k n test))

partner_by : (n j : ℕ) (o : Option (Option ℕ)) → option_and_then (λ o. option_and_then (below n) o) o ≡ Some j → (o ≡ Some (Some j)) × (j < n)
partner_by n j None e = absurd (none-some j e)
partner_by n j (Some None) e = absurd (none-some j e)
partner_by n j (Some (Some k)) e = let r = below_there n j k (ltb k n) refl e in (ap (λ (m : ℕ). Some (Some m)) r.0, r.1)

pub partner_there : (pairs : List (Option ℕ)) (i n j : ℕ) → partner_of pairs i n ≡ Some j → (slice_get pairs i ≡ Some (Some j)) × (j < n)
partner_there pairs i n j e = partner_by n j (slice_get pairs i) e

pub partner_from : (pairs : List (Option ℕ)) (i n j : ℕ) → slice_get pairs i ≡ Some (Some j) → j < n → partner_of pairs i n ≡ Some j
partner_from pairs i n j at within =
    ap (λ (o : Option (Option ℕ)). option_and_then (λ o. option_and_then (below n) o) o) at ∙ ap (λ (b : Bool). cond b (Some j) None) (lt-ltb j n within)

pub some_is : {X : Type 0} (o : Option X) (x : X) → o ≡ Some x → IsSome o
some_is o x e = ap is_some e

-- ---- two at their places

pub at_both : {X : Type 0} (R : X → X → Type 0) (xs ys : List X) (i j : ℕ) (x y : X) → slice_get xs i ≡ Some x → slice_get ys j ≡ Some y → At R xs ys i j → R x y
at_both {X} R xs ys i j x y at there h = at_some (R x) (slice_get ys j) y (at_some (λ (u : X). IfSome (slice_get ys j) (R u)) (slice_get xs i) x h at) there

pub both_at : {X : Type 0} (R : X → X → Type 0) (xs ys : List X) (i j : ℕ) (x y : X) → slice_get xs i ≡ Some x → slice_get ys j ≡ Some y → R x y → At R xs ys i j
both_at {X} R xs ys i j x y at there h =
    when_some (λ (u : X). IfSome (slice_get ys j) (R u)) (slice_get xs i) (λ u own. when_some (R u) (slice_get ys j) (λ v other.
    subst (λ (w : X). R w v) (same_Some x u (sym at ∙ own)) (subst (R x) (same_Some y v (sym there ∙ other)) h)))

-- ---- the one place of what passes a test

pub position_one : {X : Type 0} (p : X → Bool) (xs : List X) (j : ℕ) (x : X) → slice_get xs j ≡ Some x → p x ≡ true
    → ((i : ℕ) (y : X) → slice_get xs i ≡ Some y → p y ≡ true → i ≡ j) → position p xs ≡ Some j
position_one p xs j x at passes one =
    let (i, is) = some_of (position p xs) (position-is_some p xs j x at passes) in
    let (y, there, test) = at_position p xs i is in
    is ∙ ap (λ (k : ℕ). Some k) (one i y there test)
