use Rattle.std.proofs.Common.{◌≡◌, ◌++◌, map, take}
use Rattle.std.specs.Prelude.{string_bytes}
use Rattle.dia_accepted.specs.Accepted.{plain_entry}
use Rattle.dia_upgrades.specs.Writing.{stale_text}
use Rattle.dia_upgrades.proofs.ending.push_stale.Given as goal

abbrev pub invariant-loop-entry : goal.invariant-loop-entry
invariant-loop-entry g l = string_bytes l.text ≡ string_bytes l.initial.text ++ stale_text (g.W.LineWriter.writes l.writer) (map plain_entry (take l.entry-index l.entries))
