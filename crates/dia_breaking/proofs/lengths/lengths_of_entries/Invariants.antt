use Rattle.std.proofs.Common.{◌≡◌, length}
use Rattle.dia_breaking.proofs.FloorsOfEntries.{AreSameLengths}
use Rattle.dia_breaking.proofs.lengths.lengths_of_entries.Given as goal

abbrev pub invariant-loop-index : goal.invariant-loop-index
invariant-loop-index g l = (length l.lengths.items ≡ l.index) × AreSameLengths l.index l.least.lengths.items l.lengths.items
