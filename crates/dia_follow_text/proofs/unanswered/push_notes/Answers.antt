use Rattle.std.proofs.Common.{[], ◌∷◌, ◌++◌, refl, sym}
use Rattle.std.specs.Prelude.{string_bytes}
use Rattle.dia_follow_text.specs.Answers.{unanswered}
use Rattle.dia_follow_text.specs.Notes.{Note}
use Rattle.dia_follow_text.proofs.FirstNotes.{all_noted, fewer, noted_text, one_noted}
use Rattle.std.proofs.lemmas.List.{append-nil}
use Rattle.dia_follow_text.proofs.unanswered.push_notes.Goals as goal

pub loop-end-init : goal.loop-end-init
loop-end-init g c = ([], refl, sym (append-nil (string_bytes c.args.text.now)))

pub loop-end-preserved : goal.loop-end-preserved
loop-end-preserved g c =
    let (done, is, text) = c.loop-end.invariant in
    let note : Note = (c.in-Some.end, c.in-Some.request.now) in
    let T = λ (n : Note). unanswered c.args.manner.now.options.json (g.B.Book.meaning c.args.manner.now.book.now) n.0 n.1 in (
      done ++ note ∷ [],
      one_noted T c.args.ours.now c.args.theirs.now c.loop-end.ours.now c.loop-end.theirs.now c.ours_after-ours.result.now c.theirs_after-theirs.result.now done note is c.in-Some.ensures
          c.ours_after-ours.ensures c.theirs_after-theirs.ensures,
      noted_text T c.args.ours.now c.args.theirs.now c.loop-end.ours.now c.loop-end.theirs.now c.ours_after-ours.result.now c.theirs_after-theirs.result.now done note is c.in-Some.ensures
          c.ours_after-ours.ensures c.theirs_after-theirs.ensures _ _ _ text c.in_ok-push_unanswered.ensures,
    )

pub loop-end-smaller : goal.loop-end-smaller
loop-end-smaller g c =
    let (done, is, text) = c.loop-end.invariant in
    fewer (λ (n : Note). unanswered c.args.manner.now.options.json (g.B.Book.meaning c.args.manner.now.book.now) n.0 n.1)
    c.args.ours.now c.args.theirs.now c.loop-end.ours.now c.loop-end.theirs.now c.ours_after-ours.result.now c.theirs_after-theirs.result.now done (c.in-Some.end, c.in-Some.request.now) is c.in-Some.ensures
    c.ours_after-ours.ensures c.theirs_after-theirs.ensures

pub returns : goal.returns
returns g c =
    let (done, is, text) = c.loop-end.invariant in
    all_noted (λ (n : Note). unanswered c.args.manner.now.options.json (g.B.Book.meaning c.args.manner.now.book.now) n.0 n.1)
    c.args.ours.now c.args.theirs.now c.loop-end.ours.now c.loop-end.theirs.now done _ _ is c.in_default.ensures text
