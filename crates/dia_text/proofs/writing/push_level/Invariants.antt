use Rattle.std.specs.Prelude.{string_bytes}
use Rattle.dia_text.proofs.LevelTexts.{IsUnderWay, left_to_read}
use Rattle.dia_text.proofs.writing.push_level.Given as goal

abbrev pub invariant-loop-avp : goal.invariant-loop-avp
invariant-loop-avp g l = IsUnderWay (g.B.Book.meaning l.book) l.fn.level (string_bytes l.fn.text) (string_bytes l.text) l.outer.items l.rest

abbrev pub decreases-loop-avp : goal.decreases-loop-avp
decreases-loop-avp g l = left_to_read l.rest l.outer.items
