use Rattle.std.proofs.Common.{◌≡◌, ◌++◌, filter, map, take}
use Rattle.dia_book.specs.Dictionary.{DictEntry}
use Rattle.dia_breaking.specs.SentKeys.{is_unknown}
use Rattle.dia_breaking.proofs.keys.push_keys_of_b_alone.Given as goal

abbrev pub invariant-loop-index : goal.invariant-loop-index
invariant-loop-index g l =
    l.keys.items ≡ l.initial.keys.items ++ filter (is_unknown (g.A.Book.meaning l.a)) (map (λ (e : DictEntry). e.key) (take l.index (g.B.Book.meaning l.b).entries))
