-- Bytes that are added part by part.
use Rattle.std.proofs.Common.{◌≡◌, ℕ, List, [], ◌∷◌, ◌++◌, ap, ◌∙◌, append_assoc}

pub three_parts : (old a b c second third last : List ℕ) → second ≡ old ++ a → third ≡ second ++ b → last ≡ third ++ c → last ≡ old ++ (a ++ b ++ c)
three_parts old a b c second third last x y z =
    z ∙ ap (λ (r : List ℕ). r ++ c) (y ∙ ap (λ (r : List ℕ). r ++ b) x ∙ append_assoc old a b) ∙ append_assoc old (a ++ b) c

pub four_parts : (old a : List ℕ) (x : ℕ) (b c second third fourth last : List ℕ) → second ≡ old ++ a → third ≡ second ++ x ∷ [] → fourth ≡ third ++ b → last ≡ fourth ++ c
    → last ≡ old ++ (a ++ (x ∷ b) ++ c)
four_parts old a x b c second third fourth last is then_is after_is last_is =
    three_parts old a (x ∷ b) c second fourth last is (after_is ∙ ap (λ (r : List ℕ). r ++ b) then_is ∙ append_assoc second (x ∷ []) b) last_is
