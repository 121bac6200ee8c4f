use Rattle.std.proofs.Common.{length, map}
use Rattle.std.specs.Str.Lines.{lines}
use Rattle.dia_accepted.specs.Accepted.{plain_entry}
use Rattle.dia_lint_text.specs.Asking.{has_in}
use Rattle.dia_lint_text.proofs.Entries.{AreRead}
use Rattle.dia_lint_text.proofs.accepted.read_lines.Given as goal

abbrev pub invariant-loop-words : goal.invariant-loop-words
invariant-loop-words l = AreRead (has_in l.choice.chosen.items) l.text (lines l.text) (length l.yielded) l.line (map plain_entry l.list.items)
