use Rattle.dia_mask.specs.Replaced.{Numbering}
use Rattle.dia_mask.specs.Texts.{Agrees}
use Rattle.dia_mask.specs.Words.{Grows}
use Rattle.dia_mask.proofs.Levels.{IsUnderWay, left_to_read}
use Rattle.dia_mask.proofs.message.mask_level.Given as goal

abbrev pub invariant-loop-avp : goal.invariant-loop-avp
invariant-loop-avp g l = Grows l.fn.run.masking.words l.run.masking.words
    × ((numbers : Numbering) → Agrees l.run.masking.words numbers → IsUnderWay l.choice numbers (g.B.Book.meaning l.book) l.level l.fn.out.items l.out.items l.outer.items l.rest)

abbrev pub decreases-loop-avp : goal.decreases-loop-avp
decreases-loop-avp g l = left_to_read l.rest l.outer.items
