use Rattle.std.proofs.Common.{◌≡◌, take, string_bytes}
use Rattle.dia_places.specs.Records.{paths_of}
use Rattle.dia_uses.specs.Outcome.{all_lines}
use Rattle.dia_uses.proofs.command.lines.Given as goal

abbrev pub invariant-loop-key : goal.invariant-loop-key
invariant-loop-key g l = string_bytes l.text ≡ all_lines l.json (g.B.Book.meaning l.book) (paths_of l.reached) (take l.key-index l.keys)
