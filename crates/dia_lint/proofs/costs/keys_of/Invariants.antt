use Rattle.std.proofs.Common.{◌≡◌, map, take}
use Rattle.dia_book.specs.Dictionary.{DictEntry}
use Rattle.dia_lint.proofs.costs.keys_of.Given as goal

abbrev pub invariant-loop-index : goal.invariant-loop-index
invariant-loop-index g l = l.keys.items ≡ map (λ (e : DictEntry). e.key) (take l.index (g.B.Book.meaning l.book).entries)
