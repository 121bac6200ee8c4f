use Rattle.std.proofs.Common.{length, map}
use Rattle.std.specs.Str.Lines.{lines}
use Rattle.dia_accepted.specs.Accepted.{plain_entry}
use Rattle.dia_accepted.proofs.Lists.{AreRead}
use Rattle.dia_accepted.proofs.list.read_list.Given as goal

abbrev pub invariant-loop-words : goal.invariant-loop-words
invariant-loop-words l = AreRead (lines l.text) (length l.yielded) l.line (map plain_entry l.list.items)
