-- What a map has at bytes after a change at one key, whose keys are read as bytes.
use Rattle.std.proofs.Common.{◌≡◌, ℕ, Bool, true, false, cond, List, Option, Some, None, HashMap, sym, ap, subst, ◌∙◌, ⊎_elim, bytes_eq}
use Rattle.std.specs.Cmp.Lexicographic.{bytes_decides}
use Rattle.std.specs.HashMap.{Updates, get, get_by}
use Rattle.std.specs.Map.{lookup, update, KeepsOthers, IsKeyTest, AreApart}
use Rattle.std.proofs.lemmas.Cmp.{nat_list_eq_equiv}
use Rattle.std.proofs.lemmas.Bool.{cases_Bool, cond-true, cond-false}

module _ {K X : Type 0} (eq : K → K → Bool) (test : K → Bool) where
  others : (old new : List (K × X)) → KeepsOthers eq test old new → (other : K → Bool) → IsKeyTest eq other → AreApart test other → lookup other new ≡ lookup other old
  unfolding KeepsOthers
  others old new h = h

module _ {K : Type 0} (bytes : K → List ℕ) where
  apart : (word other : List ℕ) (k : K) → bytes_eq word other ≡ false → bytes_eq word (bytes k) ≡ true → bytes_eq other (bytes k) ≡ false
  apart word other k differ is = nat_list_eq_equiv.symm other (bytes k) ∙ sym (nat_list_eq_equiv.congr word (bytes k) other is) ∙ differ

  pub put_at : {X : Type 0} (word : List ℕ) (old new : List (K × X)) (v : Option X) → lookup (λ k. bytes_eq word (bytes k)) new ≡ v
      → KeepsOthers (λ x y. bytes_eq (bytes x) (bytes y)) (λ k. bytes_eq word (bytes k)) old new
      → (other : List ℕ) → lookup (λ k. bytes_eq other (bytes k)) new ≡ cond (bytes_eq word other) v (lookup (λ k. bytes_eq other (bytes k)) old)
  put_at word old new v here kept other =
      ⊎_elim
      (λ same. subst (λ (l : List ℕ). lookup (λ k. bytes_eq l (bytes k)) new ≡ v) ((bytes_decides word other).0 same) here
      ∙ sym (cond-true (bytes_eq word other) v (lookup (λ k. bytes_eq other (bytes k)) old) same))
      (λ differ. others (λ x y. bytes_eq (bytes x) (bytes y)) (λ k. bytes_eq word (bytes k)) old new kept (λ k. bytes_eq other (bytes k))
      (λ x y. nat_list_eq_equiv.congr other (bytes x) (bytes y)) (λ k. apart word other k differ)
      ∙ sym (cond-false (bytes_eq word other) v (lookup (λ k. bytes_eq other (bytes k)) old) differ))
      (cases_Bool (bytes_eq word other))

  pub numbers_put : {S : Type 0} (old new : HashMap K ℕ S) (word : List ℕ) (n : ℕ) (key : K) → bytes key ≡ word → Updates (λ x y. bytes_eq (bytes x) (bytes y)) old new key (Some n)
      → (w : List ℕ) → get_by (λ k. bytes_eq w (bytes k)) new ≡ update bytes_eq (λ l. get_by (λ k. bytes_eq l (bytes k)) old) word (Some n) w
  numbers_put old new word n key is updates w =
      put_at (bytes key) old.entries new.entries (Some n) updates.1 updates.3 w
      ∙ ap (λ (l : List ℕ). cond (bytes_eq l w) (Some n) (lookup (λ k. bytes_eq w (bytes k)) old.entries)) is

  pub was_absent : {S : Type 0} (old : HashMap K ℕ S) (word : List ℕ) (key : K) (was : Option ℕ) → bytes key ≡ word → was ≡ get (λ x y. bytes_eq (bytes x) (bytes y)) old key
      → get_by (λ k. bytes_eq word (bytes k)) old ≡ None → was ≡ None
  was_absent old word key was is had none = had ∙ ap (λ (l : List ℕ). lookup (λ k. bytes_eq l (bytes k)) old.entries) is ∙ none
