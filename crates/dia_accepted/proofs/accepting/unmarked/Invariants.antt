use Rattle.std.proofs.Common.{◌≡◌, map, take}
use Rattle.dia_accepted.specs.Accepted.{plain_entry}
use Rattle.dia_accepted.specs.Seen.{unmarked}
use Rattle.dia_accepted.proofs.accepting.unmarked.Given as goal

abbrev pub invariant-loop-entry : goal.invariant-loop-entry
invariant-loop-entry l = map plain_entry l.entries.items ≡ unmarked l.texts.entries (map plain_entry (take l.entry-index l.list))
