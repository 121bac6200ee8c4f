use Rattle.std.proofs.Common.{length}
use Rattle.std.specs.Str.Lines.{lines}
use Rattle.dia_show.specs.Words.{plain_words}
use Rattle.dia_show.proofs.WordLists.{AreRead}
use Rattle.dia_show.proofs.words.Words.add_lines.Given as goal

abbrev pub invariant-loop-line : goal.invariant-loop-line
invariant-loop-line l = AreRead (lines l.text) (length l.yielded) l.number (plain_words l.self)
