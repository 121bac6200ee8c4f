use Rattle.std.proofs.Common.{◌≡◌, map, take, filter}
use Rattle.std.specs.Prelude.{is_some}
use Rattle.dia_wire.specs.declared.Key.{Key}
use Rattle.dia_book.specs.Dictionary.{DictEntry, entry_of}
use Rattle.dia_compat.proofs.proposing.reaching.shared_keys.Given as goal

abbrev pub invariant-loop-index : goal.invariant-loop-index
invariant-loop-index g l =
    l.keys.items ≡ filter (λ (key : Key). is_some (entry_of (g.B.Book.meaning l.b) key)) (take l.index (map (λ (e : DictEntry). e.key) (g.A.Book.meaning l.a).entries))
