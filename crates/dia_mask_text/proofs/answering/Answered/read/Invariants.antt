use Rattle.std.proofs.Common.{◌≡◌, ◌++◌, List, ℕ, length}
use Rattle.dia_mask.specs.declared.words.Words.{Words}
use Rattle.dia_mask.specs.Runs.{words_of}
use Rattle.dia_mask.specs.Words.{Grows}
use Rattle.dia_mask_text.specs.Lines.{MaskedLine, ReadsMasked}
use Rattle.dia_mask_text.proofs.answering.Answered.read.Given as goal

abbrev pub invariant-loop-line : goal.invariant-loop-line
invariant-loop-line g l = Grows (words_of l.fn.state.run) (words_of l.state.run) × ((done : List ℕ) × (l.piece ≡ done ++ l.rest)
    × ((words : Words) → Grows (words_of l.state.run) words
    → (lines : List MaskedLine) × ReadsMasked l.manner.choice words (g.B.Book.meaning l.manner.book.now) l.fn.self l.self l.fn.state.unread l.state.unread done lines))

abbrev pub decreases-loop-line : goal.decreases-loop-line
decreases-loop-line g l = length l.rest
