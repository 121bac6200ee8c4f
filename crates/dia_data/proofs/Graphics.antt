-- Graphic bytes, as more of them come.
use Rattle.std.proofs.Common.{◌≡◌, ℕ, Bool, true, false, List, ◌++◌, length, All, subst, rules}
use Rattle.std.specs.Prelude.{◌↔◌, IsTrue}
use Rattle.std.proofs.Math.Seq.{take-append_seam, drop-append_seam}
use Rattle.std.proofs.lemmas.List.Elements.{All-append, All-take, All-drop}
use Rattle.dia_data.specs.Leaf.{IsGraphic}

graphic_front : (bytes piece : List ℕ) → All IsGraphic (bytes ++ piece) → All IsGraphic bytes
graphic_front bytes piece all = subst (All IsGraphic) (take-append_seam bytes piece) (All-take IsGraphic (length bytes) (bytes ++ piece) all)

graphic_after : (bytes piece : List ℕ) → All IsGraphic (bytes ++ piece) → All IsGraphic piece
graphic_after bytes piece all = subst (All IsGraphic) (drop-append_seam bytes piece) (All-drop IsGraphic (length bytes) (bytes ++ piece) all)

-- all are graphic where those before and those of the piece are
pub graphic_fed : (before of_piece after : Bool) (bytes piece : List ℕ) → (IsTrue before ↔ All IsGraphic bytes) → before ≡ true
    → (IsTrue of_piece ↔ All IsGraphic piece) → after ≡ of_piece → IsTrue after ↔ All IsGraphic (bytes ++ piece)
graphic_fed before of_piece after bytes piece was t of_it is =
    (λ u. All-append IsGraphic bytes piece (was.0 (search rules)) (of_it.0 (search rules)), λ all. let w = of_it.1 (graphic_after bytes piece all) in search rules)

pub graphic_no_more : (before after : Bool) (bytes piece : List ℕ) → (IsTrue before ↔ All IsGraphic bytes) → before ≡ false → after ≡ false → IsTrue after ↔ All IsGraphic (bytes ++ piece)
graphic_no_more before after bytes piece was f is = (λ u. absurd cc, λ all. let w = was.1 (graphic_front bytes piece all) in absurd cc)
