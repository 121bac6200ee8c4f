use Rattle.std.proofs.Common.{◌≡◌, map, take, true, cond}
use Rattle.std.specs.Prelude.{filter}
use Rattle.dia_accepted.specs.Accepted.{plain_entry}
use Rattle.dia_accepted.specs.Sets.{has}
use Rattle.dia_accepted.specs.Words.{command_in}
use Rattle.dia_accepted.proofs.choosing.about_known.Given as goal

abbrev pub invariant-loop-entry : goal.invariant-loop-entry
invariant-loop-entry l = map plain_entry l.entries.items ≡ filter (λ e. cond l.all true (has l.known.entries (command_in e.counted))) (map plain_entry (take l.entry-index l.list))
