use Rattle.std.proofs.Common.{◌≡◌, ◌++◌, take, string_bytes}
use Rattle.dia_places.specs.Records.{paths_of}
use Rattle.dia_uses.specs.Kinds.{lines_by}
use Rattle.dia_uses.proofs.writing.push_kind.Given as goal

abbrev pub invariant-loop-place : goal.invariant-loop-place
invariant-loop-place g l =
    string_bytes l.out ≡ string_bytes l.initial.out ++ lines_by l.asked.json (g.B.Book.meaning l.asked.book.now) l.kind l.asked.key (take l.place (paths_of l.reached))
