use Rattle.std.proofs.Common.{length, take}
use Rattle.std.specs.List.{flat_map}
use Rattle.std.specs.Str.Lines.{lines}
use Rattle.dia_show.specs.Words.{words_by}
use Rattle.dia_make.specs.Tables.{AreTablesOf}
use Rattle.dia_make.proofs.tables.Tables.add_lines.Given as goal

abbrev pub invariant-loop-line : goal.invariant-loop-line
invariant-loop-line l = AreTablesOf l.self (flat_map words_by (take (length l.yielded) (lines l.text)))
