use Rattle.std.proofs.Common.{◌≡◌, false, map, take}
use Rattle.dia_book.specs.Dictionary.{DictEntry}
use Rattle.dia_mask.proofs.choice.Choice.none.Given as goal

abbrev pub invariant-loop : goal.invariant-loop
invariant-loop g l = l.masked.items ≡ map (λ (e : DictEntry). false) (take l.counter (g.B.Book.meaning l.book).entries)
