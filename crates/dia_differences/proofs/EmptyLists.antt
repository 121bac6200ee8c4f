-- Where there are no differences.
use Rattle.std.proofs.Common.{◌≡◌, ℕ, zero, suc, ◌+◌, ◌<◌, List, [], ◌∷◌, ◌++◌, length, Some, sym, ap, subst, ◌∙◌, inl, inr, arith, below_more}
use Rattle.std.specs.Prelude.{◌↔◌, IfSome, slice_get}
use Rattle.std.proofs.lemmas.Option.{same_Some, slice_get_within}
use Rattle.dia_book.specs.declared.definition.DRule.{DRule}
use Rattle.dia_book.proofs.Members.{append-none}
use Rattle.dia_valid.proofs.Members.{at_some, there_is}
use Rattle.dia_differences.specs.declared.lines.What.{What}
use Rattle.dia_differences.specs.Lines.{Each, Only, Then, Unless}

-- the lists of R are empty if and only if P holds
abbrev pub EmptyIff : (List What → Type 0) → Type 0 → Type 0
EmptyIff R P = (ws : List What) → R ws → (ws ≡ []) ↔ P

pub empty_for : (R : List What → Type 0) (P Q : Type 0) → (P → Q) → (Q → P) → EmptyIff R P → EmptyIff R Q
empty_for R P Q f g h ws r = let k = h ws r in (λ e. f (k.0 e), λ q. k.1 (g q))

some_difference : (w : What) → w ∷ [] ≡ [] → ⊥
some_difference w e = let n : 1 ≡ 0 = ap length e in absurd (omega (arith, n))

pub empty_unless : (P : Type 0) (w : What) → EmptyIff (Unless P w) P
empty_unless P w ws (inl h) = (λ n. h.0, λ p. h.1)
empty_unless P w ws (inr h) = (λ n. absurd (some_difference w (sym h.1 ∙ n)), λ p. absurd (h.0 p))

pub empty_only : (w : What) → EmptyIff (Only w) ⊥
empty_only w ws e = (λ n. some_difference w (sym e ∙ n), λ h. absurd h)

pub empty_then : (R S : List What → Type 0) (P Q : Type 0) → EmptyIff R P → EmptyIff S Q → EmptyIff (Then R S) (P × Q)
empty_then R S P Q f g ws (xs, ys, r, s, e) = (
  λ n.
      let both = append-none xs ys (sym e ∙ n) in
      ((f xs r).0 both.0, (g ys s).0 both.1),
  λ h. e ∙ ap (λ (zs : List What). zs ++ ys) ((f xs r).1 h.0) ∙ (g ys s).1 h.1,
)

pub empty_alone : (w : What) (S : List What → Type 0) → EmptyIff (Then (Only w) S) ⊥
empty_alone w S ws (xs, ys, r, s, e) = (λ n. some_difference w (sym r ∙ (append-none xs ys (sym e ∙ n)).0), λ h. absurd h)

abbrev pub Before : (ℕ → Type 0) → ℕ → Type 0
Before P n = (i : ℕ) → i < n → P i

pub empty_each : (R : ℕ → List What → Type 0) (P : ℕ → Type 0) (n : ℕ) → ((i : ℕ) → i < n → EmptyIff (R i) (P i)) → EmptyIff (Each n R) (Before P n)
empty_each R P zero each = λ ws e. (λ n i less. absurd (omega arith), λ h. e)
empty_each R P (suc n) each =
    let same : n + 1 ≡ suc n = omega arith in
    let Q : ℕ → Type 0 = λ k. EmptyIff (Each (suc n) R) (Before P k) in
    subst Q same (empty_for (Then (Each n R) (R n)) (Before P n × P n) (Before P (n + 1)) (λ h. below_more P n h.0 h.1) (λ h. (λ i less. h i (omega arith), h n (omega arith)))
    (empty_then (Each n R) (R n) (Before P n) (P n) (empty_each R P n (λ i less. each i (omega arith))) (each n (omega arith))))

-- the rule at a place
abbrev pub AtPlace : List DRule → (ℕ → DRule → Type 0) → ℕ → Type 0
AtPlace rules P i = (r : DRule) → slice_get rules i ≡ Some r → P i r

pub empty_rules : (rules : List DRule) (L : ℕ → DRule → List What → Type 0) (P : ℕ → DRule → Type 0) → ((i : ℕ) (r : DRule) → EmptyIff (L i r) (P i r))
    → EmptyIff (Each (length rules) (λ i ws. IfSome (slice_get rules i) (λ r. L i r ws))) ((i : ℕ) (r : DRule) → slice_get rules i ≡ Some r → P i r)
empty_rules rules L P each =
    empty_for (Each (length rules) (λ i ws. IfSome (slice_get rules i) (λ r. L i r ws))) (Before (AtPlace rules P) (length rules)) ((i : ℕ) (r : DRule) → slice_get rules i ≡ Some r → P i r)
    (λ h i r at. h i (slice_get_within rules i r at) r at) (λ h i less r at. h i r at)
    (empty_each (λ i ws. IfSome (slice_get rules i) (λ r. L i r ws)) (AtPlace rules P) (length rules) one)
  where
    one : (i : ℕ) → i < length rules → EmptyIff (λ ws. IfSome (slice_get rules i) (λ r. L i r ws)) (AtPlace rules P i)
    one i less ws h =
        let (r, at) = there_is rules i less in
        let k = each i r ws (at_some (λ (s : DRule). L i s ws) (slice_get rules i) r h at) in
        (λ e s there. subst (P i) (same_Some r s (sym at ∙ there)) (k.0 e), λ p. k.1 (p r at))
