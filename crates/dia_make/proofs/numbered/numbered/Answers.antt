use Rattle.std.proofs.Common.{◌++◌, ◌+◌, ◌∷◌, [], ℕ, ap, arith, get_or, subst, sym, ◌∙◌}
use Rattle.dia_make.proofs.Pieces.{IsMadeUpTo, made_of_all, up_to_end, up_to_more}
use Rattle.dia_make.proofs.numbered.numbered.Goals as goal
use Rattle.dia_make.proofs.numbered.numbered.Goals.{then-ends_piece+in_ok-push_piece+in_ok-push, else-ends_piece}

pub loop-index-preserved : goal.loop-index-preserved
loop-index-preserved c =
    let text = c.args.text.now in
    let i = c.loop-index.index in
    let after = c.quoted_after-quoted.result in
    elim c.if-ends_piece.branch [
      | then-ends_piece+in_ok-push_piece+in_ok-push w ↦ (
        omega (arith, w.start-is),
        omega arith,
        λ words are.
            subst (λ (s : ℕ). IsMadeUpTo words text c.if-ends_piece.made.items s after (i + 1)) (sym w.start-is)
            (up_to_end words text c.loop-index.made.items c.if-ends_piece.made.items c.loop-index.start i c.loop-index.quoted after c.loop-index-test.true
            (sym c.ends_piece.ensures ∙ w.if-ends_piece.true) c.quoted_after-quoted.ensures
            (ap (λ v. v.items) w.made-is ∙ w.in_ok-push.ensures.items ∙ ap (λ x. x ++ get_or text i 0 ∷ []) (w.in_ok-push_piece.ensures words are))
            (c.loop-index.invariant.2 words are)),
      )
      | else-ends_piece w ↦ (
        omega (arith, w.start-is),
        omega arith,
        λ words are.
            subst (λ (s : ℕ). IsMadeUpTo words text c.if-ends_piece.made.items s after (i + 1)) (sym w.start-is)
            (subst (λ v. IsMadeUpTo words text v.items c.loop-index.start after (i + 1)) (sym w.made-is)
            (up_to_more words text c.loop-index.made.items c.loop-index.start i c.loop-index.quoted after c.loop-index.invariant.0 c.loop-index-test.true
            (sym c.ends_piece.ensures ∙ w.if-ends_piece.false) c.quoted_after-quoted.ensures (c.loop-index.invariant.2 words are))),
      )
    ]

pub returns : goal.returns
returns c = λ words are.
    made_of_all words c.args.text.now c.loop-index.made.items c.push_piece-2.new.made.items c.loop-index.start c.loop-index.index c.loop-index.quoted
    (omega (arith, c.loop-index.invariant.1, c.loop-index-test.false)) (c.in_ok-push_piece-2.ensures words are) (c.loop-index.invariant.2 words are)
