-- Lines that get their marks.
use Rattle.std.proofs.Common.{◌≡◌, ℕ, ◌+◌, ◌<◌, false, List, [], ◌∷◌, ◌++◌, length, map, take, get_or, refl, sym, ap, subst, ◌∙◌}
use Rattle.std.specs.List.{AllByRecursion}
use Rattle.std.proofs.lemmas.List.{map-append, take_more}
use Rattle.dia_book.specs.Dictionary.{Dictionary}
use Rattle.dia_terms.specs.declared.Sends.{Sends}
use Rattle.dia_terms.specs.declared.Unknown.{Unknown}
use Rattle.dia_differences.specs.declared.lines.Effects.{Effects}
use Rattle.dia_differences.specs.declared.lines.Line.{Line}
use Rattle.dia_differences.specs.declared.lines.What.{What}
use Rattle.dia_diff.specs.MarkedLines.{AreMarkedLines, back_from, there_from, with_marks}
use Rattle.dia_diff.specs.Marks.{AreMarks, whats}
use Rattle.dia_diff.specs.Unbroken.{AreSoundMarks}

module _ (there back : What → Effects) where
  pub marked_next : (lines : List Line) (i : ℕ) (d : Line) (old new : List Line) (x y : Effects) → i < length lines → new ≡ old ++ record { what = (get_or lines i d).what; there = x; back = y } ∷ []
      → x ≡ there (get_or lines i d).what → y ≡ back (get_or lines i d).what → old ≡ map (with_marks there back) (take i lines) → new ≡ map (with_marks there back) (take (i + 1) lines)
  marked_next lines i d old new x y within is first second before =
      let w = (get_or lines i d).what in
      let own : Effects → Effects → Line = λ u v. record { what = w; there = u; back = v } in
      is ∙ ap (λ (ls : List Line). ls ++ own x y ∷ []) before ∙ ap (λ (u : Effects). map (with_marks there back) (take i lines) ++ own u y ∷ []) first
      ∙ ap (λ (v : Effects). map (with_marks there back) (take i lines) ++ own (there w) v ∷ []) second
      ∙ sym (map-append (with_marks there back) (take i lines) (get_or lines i d ∷ [])) ∙ ap (map (with_marks there back)) (sym (take_more lines i d within))

  same_whats : (lines : List Line) → whats (map (with_marks there back) lines) ≡ whats lines
  same_whats [] = refl
  same_whats (line ∷ lines) = ap (λ (ws : List What). line.what ∷ ws) (same_whats lines)

  pub whats_marked : (lines marked : List Line) → marked ≡ map (with_marks there back) lines → whats marked ≡ whats lines
  whats_marked lines marked is = ap whats is ∙ same_whats lines

  have_marks : (lines : List Line) → AllByRecursion (λ line. (line.there ≡ there line.what) × (line.back ≡ back line.what)) (map (with_marks there back) lines)
  have_marks [] = tt
  have_marks (line ∷ lines) = ((refl, refl), have_marks lines)

  none_there : (lines : List Line) → AllByRecursion (λ line. line.there.breaks ≡ false) (map (with_marks there back) lines) → AllByRecursion (λ w. (there w).breaks ≡ false) (whats lines)
  none_there [] h = tt
  none_there (line ∷ lines) h = (h.0, none_there lines h.1)

  none_back : (lines : List Line) → AllByRecursion (λ line. line.back.breaks ≡ false) (map (with_marks there back) lines) → AllByRecursion (λ w. (back w).breaks ≡ false) (whats lines)
  none_back [] h = tt
  none_back (line ∷ lines) h = (h.0, none_back lines h.1)

  no_whats : (lines : List Line) → (length lines ≡ 0 → ⊥) → whats lines ≡ [] → ⊥
  no_whats [] some none = some refl
  no_whats (line ∷ lines) some none = absurd cc

  pub are_marked : (a b : Dictionary) (sends : Sends) (unknown : Unknown) (lines marked : List Line) → marked ≡ map (with_marks there back) lines → (length lines ≡ 0 → ⊥)
      → AreSoundMarks (there_from a b sends unknown) (whats lines) there → AreSoundMarks (back_from a b sends unknown) (whats lines) back → AreMarkedLines a b sends unknown marked
  are_marked a b sends unknown lines marked is some first second =
      let same = sym (whats_marked lines marked is) in
      let non_empty = no_whats lines some in
      record {
        effects_there = there;
        effects_back = back;
        there = subst (λ (ws : List What). AreMarks (there_from a b sends unknown) ws there) same first.marks;
        back = subst (λ (ws : List What). AreMarks (back_from a b sends unknown) ws back) same second.marks;
        marks = subst (AllByRecursion (λ line. (line.there ≡ there line.what) × (line.back ≡ back line.what))) (sym is) (have_marks lines);
        unbroken_there = λ none. first.unbroken non_empty (none_there lines (subst (AllByRecursion (λ line. line.there.breaks ≡ false)) is none));
        unbroken_back = λ none. second.unbroken non_empty (none_back lines (subst (AllByRecursion (λ line. line.back.breaks ≡ false)) is none));
      }
