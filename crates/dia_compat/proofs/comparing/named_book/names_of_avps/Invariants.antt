use Rattle.std.proofs.Common.{◌≡◌, map, take, Bor, List, ℕ}
use Rattle.dia_book.specs.Dictionary.{DictEntry}
use Rattle.dia_compat.proofs.comparing.named_book.names_of_avps.Given as goal

abbrev pub invariant-loop-index : goal.invariant-loop-index
invariant-loop-index g l = map (λ (n : Bor (List ℕ)). n.now) l.names.value.keys ≡ take l.index (map (λ (e : DictEntry). e.name) (g.B.Book.meaning l.book).entries)
