-- Bytes that are added one by one.
use Rattle.std.proofs.Common.{◌≡◌, ℕ, ◌+◌, List, [], ◌∷◌, ◌++◌, sym, ap, ◌∙◌, append_assoc}
use Rattle.std.specs.Prelude.{replicate}
use Rattle.std.proofs.lemmas.List.{append-nil, replicate_more}

pub none_added : (xs : List ℕ) (byte : ℕ) → xs ≡ xs ++ replicate 0 byte
none_added xs byte = sym (append-nil xs)

pub one_added : (now old : List ℕ) (n byte : ℕ) → now ≡ old ++ replicate n byte → now ++ byte ∷ [] ≡ old ++ replicate (n + 1) byte
one_added now old n byte is = ap (λ (t : List ℕ). t ++ byte ∷ []) is ∙ append_assoc old (replicate n byte) (byte ∷ []) ∙ ap (λ (t : List ℕ). old ++ t) (replicate_more n byte)
