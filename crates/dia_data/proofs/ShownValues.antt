-- The text of data that a format accepts.
use Rattle.std.proofs.Common.{◌≡◌, ◌≢◌, ℕ, List, length, inl, inr, subst, ap, ◌∙◌, arith}
use Rattle.std.proofs.lemmas.List.{take_all}
use Rattle.byteorder.specs.Endian.{big_from}
use Rattle.dia_data.specs.declared.accept.Leaf.{Leaf}
use Rattle.dia_data.specs.declared.accept.Leaf.TheVariants.{Fine}
use Rattle.dia_data.specs.Plain.{PlainFormat, Grouped}
use Rattle.dia_data.specs.Number.{number}
use Rattle.dia_data.specs.Leaf.{IsLeaf, IsLeafAnswer}
use Rattle.dia_data.proofs.Numbers.{big_from-number}

pub leaf_from_fine : (answer : Leaf) (kind : PlainFormat) (bytes : List ℕ) → answer ≡ Fine → kind ≢ Grouped → IsLeafAnswer answer kind bytes → IsLeaf kind bytes
leaf_from_fine answer kind bytes fine level said = elim (subst (λ (a : Leaf). IsLeafAnswer a kind bytes) fine said) [
  | inl leaf ↦ leaf
  | inr grouped ↦ absurd (level grouped)
]

pub number_of_all : (n : ℕ) (bytes : List ℕ) → length bytes ≡ n → big_from 0 n bytes ≡ number bytes
number_of_all n bytes is = big_from-number n bytes (omega arith) ∙ ap number (take_all n bytes (omega arith))
