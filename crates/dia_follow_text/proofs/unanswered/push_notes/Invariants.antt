use Rattle.std.proofs.Common.{◌≡◌, ◌++◌, List, length}
use Rattle.std.specs.List.{flat_map}
use Rattle.std.specs.Prelude.{string_bytes}
use Rattle.dia_follow_text.specs.Answers.{unanswered}
use Rattle.dia_follow_text.specs.Notes.{Note, in_order}
use Rattle.dia_follow_text.proofs.unanswered.push_notes.Given as goal

abbrev pub invariant-loop-end : goal.invariant-loop-end
invariant-loop-end g l = (done : List Note) × (in_order l.fn.ours l.fn.theirs ≡ done ++ in_order l.ours l.theirs)
    × (string_bytes l.text ≡ string_bytes l.fn.text
    ++ flat_map (λ n. unanswered l.manner.options.json (g.B.Book.meaning l.manner.book.now) n.0 n.1) done)

abbrev pub decreases-loop-end : goal.decreases-loop-end
decreases-loop-end g l = length (in_order l.ours l.theirs)
