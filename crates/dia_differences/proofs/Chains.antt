-- Lines that are added one after the other.
use Rattle.std.proofs.Common.{◌≡◌, ℕ, suc, ◌+◌, Bool, true, false, cond, List, [], ◌∷◌, ◌++◌, map, refl, sym, ap, subst, ◌∙◌, inl, inr, append-nil, append_assoc, arith}
use Rattle.std.specs.Prelude.{◌↔◌, IsTrue}
use Rattle.std.proofs.lemmas.List.{map-append}
use Rattle.dia_differences.specs.declared.lines.Line.{Line}
use Rattle.dia_differences.specs.declared.lines.What.{What}
use Rattle.dia_differences.specs.Lines.{Adds, Each, Only, Then, Unless, unmarked}

pub adds_nothing : (R : List What → Type 0) (xs : List Line) → R [] → Adds xs xs R
adds_nothing R xs r = ([], sym (append-nil xs), r)

pub adds_for : (R S : List What → Type 0) (xs ys : List Line) → ((ws : List What) → R ws → S ws) → Adds xs ys R → Adds xs ys S
adds_for R S xs ys f h = (h.0, h.1, f h.0 h.2)

pub adds_then : (R S : List What → Type 0) (xs ys zs : List Line) → Adds xs ys R → Adds ys zs S → Adds xs zs (Then R S)
adds_then R S xs ys zs f g = (
  f.0 ++ g.0,
  g.1 ∙ ap (λ (vs : List Line). vs ++ map unmarked g.0) f.1 ∙ append_assoc xs (map unmarked f.0) (map unmarked g.0) ∙ ap (λ (vs : List Line). xs ++ vs) (sym (map-append unmarked f.0 g.0)),
  (f.0, g.0, f.2, g.2, refl),
)

pub adds_first : (R : ℕ → List What → Type 0) (xs : List Line) → Adds xs xs (Each 0 R)
adds_first R xs = adds_nothing (Each 0 R) xs refl

pub adds_next : (R : ℕ → List What → Type 0) (n : ℕ) (xs ys zs : List Line) → Adds xs ys (Each n R) → Adds ys zs (R n) → Adds xs zs (Each (n + 1) R)
adds_next R n xs ys zs f g =
    let same : suc n ≡ n + 1 = omega arith in
    let Q : ℕ → Type 0 = λ k. Adds xs zs (Each k R) in
    subst Q same (adds_then (Each n R) (R n) xs ys zs f g)

pub adds_all : (R : ℕ → List What → Type 0) (n m : ℕ) (xs ys : List Line) → n ≡ m → Adds xs ys (Each n R) → Adds xs ys (Each m R)
adds_all R n m xs ys same f = let Q : ℕ → Type 0 = λ k. Adds xs ys (Each k R) in subst Q same f

pub adds_only : (w : What) (xs ys : List Line) → ys ≡ xs ++ unmarked w ∷ [] → Adds xs ys (Only w)
adds_only w xs ys e = (w ∷ [], e, refl)

pub adds_unless : (P : Type 0) (w : What) (same : Bool) (xs ys : List Line) → (IsTrue same) ↔ P → ys ≡ cond same xs (xs ++ unmarked w ∷ []) → Adds xs ys (Unless P w)
adds_unless P w true xs ys iff e = ([], e ∙ sym (append-nil xs), inl (iff.0 refl, refl))
adds_unless P w false xs ys iff e = (w ∷ [], e, inr (λ p. absurd (let n : false ≡ true = iff.1 p in cc), refl))

pub adds_five : (A B C D E : List What → Type 0) (l0 l1 l2 l3 l4 l5 : List Line) → Adds l0 l1 A → Adds l1 l2 B → Adds l2 l3 C → Adds l3 l4 D → Adds l4 l5 E
    → Adds l0 l5 (Then (Then (Then (Then A B) C) D) E)
adds_five A B C D E l0 l1 l2 l3 l4 l5 a b c d e =
    adds_then (Then (Then (Then A B) C) D) E l0 l4 l5 (adds_then (Then (Then A B) C) D l0 l3 l4 (adds_then (Then A B) C l0 l2 l3 (adds_then A B l0 l1 l2 a b) c) d) e
