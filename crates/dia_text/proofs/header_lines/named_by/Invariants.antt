use Rattle.std.proofs.Common.{◌≡◌, drop}
use Rattle.std.specs.List.{find}
use Rattle.dia_text.specs.LineTexts.{names_header}
use Rattle.dia_text.proofs.header_lines.named_by.Given as goal

abbrev pub invariant-loop-index : goal.invariant-loop-index
invariant-loop-index g l =
    find (names_header l.header) (g.B.Book.meaning l.book).commands ≡ find (names_header l.header) (drop l.index (g.B.Book.meaning l.book).commands)
