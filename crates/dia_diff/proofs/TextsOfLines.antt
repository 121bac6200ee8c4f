-- Lines and their texts.
use Rattle.std.proofs.Common.{◌≡◌, ℕ, ◌+◌, ◌<◌, Bool, List, [], ◌∷◌, ◌++◌, length, map, take, get_or, refl, sym, ap, subst, ◌∙◌, append-nil, append_assoc}
use Rattle.std.proofs.lemmas.List.{take_more}
use Rattle.dia_book.specs.Dictionary.{Dictionary}
use Rattle.dia_differences.specs.declared.lines.Line.{Line}
use Rattle.dia_differences.specs.declared.lines.What.{What}
use Rattle.dia_differences.specs.Lines.{Adds, AreDifferences, unmarked}
use Rattle.dia_diff_text.specs.Lines.{AreTexts, IsLineText}
use Rattle.dia_terms.specs.declared.Sends.{Sends}
use Rattle.dia_terms.specs.declared.Unknown.{Unknown}
use Rattle.dia_diff.specs.MarkedLines.{AreMarkedLines}
use Rattle.dia_diff.specs.Marks.{whats}
use Rattle.dia_diff.specs.Outcome.{AreLines}

whats_unmarked : (ws : List What) → whats (map unmarked ws) ≡ ws
whats_unmarked [] = refl
whats_unmarked (w ∷ ws) = ap (λ (vs : List What). w ∷ vs) (whats_unmarked ws)

-- lines of the same differences
pub are_lines : (a b : Dictionary) (sends : Sends) (unknown : Unknown) (json : Bool) (lines marked : List Line) (text : List ℕ) → Adds [] lines (AreDifferences a b) → whats marked ≡ whats lines → AreMarkedLines a b sends unknown marked
    → AreTexts json a b marked text → AreLines a b sends unknown json text
are_lines a b sends unknown json lines marked text added same marks texts =
    (marked, subst (AreDifferences a b) (sym (same ∙ ap whats added.1 ∙ whats_unmarked added.0)) added.2, marks, texts)

module _ (json : Bool) (a b : Dictionary) where
  texts_more : (lines : List Line) (line : Line) (text more : List ℕ) → AreTexts json a b lines text → IsLineText json a b line more → AreTexts json a b (lines ++ line ∷ []) (text ++ more)
  texts_more [] line text more none is = (more, [], is, refl, ap (λ (t : List ℕ). t ++ more) none ∙ sym (append-nil more))
  texts_more (l ∷ ls) line text more (first, rest, own, others, e) is =
      (first, rest ++ more, own, texts_more ls line rest more others is, ap (λ (t : List ℕ). t ++ more) e ∙ append_assoc first rest more)

  pub texts_next : (lines : List Line) (n : ℕ) (d : Line) (text more new : List ℕ) → n < length lines → AreTexts json a b (take n lines) text → IsLineText json a b (get_or lines n d) more → new ≡ text ++ more
      → AreTexts json a b (take (n + 1) lines) new
  texts_next lines n d text more new within before is e =
      let P : List Line → Type 0 = λ ls. AreTexts json a b ls new in
      subst P (sym (take_more lines n d within)) (subst (AreTexts json a b (take n lines ++ get_or lines n d ∷ [])) (sym e) (texts_more (take n lines) (get_or lines n d) text more before is))
