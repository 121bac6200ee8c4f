use Rattle.std.proofs.Common.{◌≡◌, length, take}
use Rattle.std.specs.List.{filter_map}
use Rattle.dia_book.specs.Dictionary.{DictEntry}
use Rattle.dia_places.proofs.graph.groups_of.Given as goal

abbrev pub invariant-loop-index : goal.invariant-loop-index
invariant-loop-index g l = l.count ≡ length (filter_map (λ (x : DictEntry). x.group) (take l.index (g.B.Book.meaning l.book).entries))
