use Rattle.std.proofs.Common.{◌≡◌, map, take}
use Rattle.dia_mask.specs.Choosing.{masked_by_format}
use Rattle.dia_mask.proofs.choice.Choice.by_format.Given as goal

abbrev pub invariant-loop-index : goal.invariant-loop-index
invariant-loop-index g l = l.masked.items ≡ map masked_by_format (take l.index (g.B.Book.meaning l.book).entries)
