use Rattle.std.proofs.Common.{◌≡◌, ℕ, List, [], map, take}
use Rattle.dia_accepted.specs.Accepted.{plain_entry}
use Rattle.dia_accepted.specs.Seen.{mark}
use Rattle.dia_accepted.specs.Sets.{found}
use Rattle.dia_accepted.proofs.accepting.texts_of.Given as goal

abbrev pub invariant-loop-entry : goal.invariant-loop-entry
invariant-loop-entry l = (text : List ℕ) → found l.texts.entries text ≡ mark (map plain_entry (take l.entry-index l.list)) [] text
