use Rattle.std.proofs.Common.{string_bytes, take}
use Rattle.dia_diff_text.specs.Lines.{AreTexts}
use Rattle.dia_diff.proofs.command.text_of.Given as goal

abbrev pub invariant-loop-line : goal.invariant-loop-line
invariant-loop-line g l = AreTexts l.json (g.A.Book.meaning l.a) (g.B.Book.meaning l.b) (take l.line-index l.lines) (string_bytes l.text)
