-- The words of values, as they are shown.
use Rattle.std.proofs.Common.{◌≡◌, ℕ, List, Some, inl, inr, refl, subst}
use Rattle.dia_data.specs.declared.accept.Leaf.{Leaf}
use Rattle.dia_data.specs.declared.accept.Leaf.TheVariants.{Fine, BadLength, BadValue}
use Rattle.dia_data.specs.Plain.{PlainFormat}
use Rattle.dia_data.specs.Leaf.{IsLeaf, IsLeafAnswer}
use Rattle.dia_data.specs.Shown.{hexadecimal, IsValueText}
use Rattle.dia_data.proofs.Leaves.{leaf_fits}
use Rattle.dia_text.specs.LineTexts.{IsValueWord}

pub fine_word : (format : PlainFormat) (bytes text : List ℕ) → IsLeafAnswer Fine format bytes → IsValueText format bytes text → IsValueWord (Some format) bytes text
fine_word format bytes text (inl leaf) t = inl (leaf, t.accepted leaf)
fine_word format bytes text (inr grouped) t =
    let no_leaf : ¬ IsLeaf format bytes = λ leaf. subst (λ (f : PlainFormat). IsLeaf f bytes) grouped leaf in
    inr (no_leaf, t.refused no_leaf)

pub other_word : (answer : Leaf) (format : PlainFormat) (bytes : List ℕ) → ¬ (answer ≡ Fine) → IsLeafAnswer answer format bytes → IsValueWord (Some format) bytes (hexadecimal bytes)
other_word Fine format bytes other said = absurd (other refl)
other_word BadLength format bytes other said = inr (λ leaf. said (leaf_fits format bytes leaf), refl)
other_word BadValue format bytes other said = inr (said.1, refl)
