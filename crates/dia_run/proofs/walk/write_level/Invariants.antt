use Rattle.std.specs.Prelude.{string_bytes}
use Rattle.dia_run.proofs.RowsOfLevels.{IsUnderWay, left_to_read}
use Rattle.dia_run.proofs.walk.write_level.Given as goal

abbrev pub invariant-loop-avp : goal.invariant-loop-avp
invariant-loop-avp g l = IsUnderWay (g.W.RowWriter.writes l.writer) (g.B.Book.meaning l.book) (record { depth = 0; place = l.fn.place; bytes = l.fn.bytes }) (string_bytes l.fn.text) (string_bytes l.text) l.outer.items l.rest

abbrev pub decreases-loop-avp : goal.decreases-loop-avp
decreases-loop-avp g l = left_to_read l.rest.bytes.now l.outer.items
