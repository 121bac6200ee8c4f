use Rattle.std.proofs.Common.{map, take, string_bytes, String}
use Rattle.std.specs.Global.{Global}
use Rattle.dia_places.specs.Asked.{AreKeysOf}
use Rattle.dia_places.proofs.asking.asked.Given as goal

abbrev pub invariant-loop-word : goal.invariant-loop-word
invariant-loop-word g l = AreKeysOf (g.B.Book.meaning l.book) (map (λ (word : String Global). string_bytes word) (take l.word-index l.words)) l.keys.items
