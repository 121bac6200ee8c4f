use Rattle.std.proofs.Common.{◌≡◌, false, take}
use Rattle.dia_text.specs.Made.{has_word}
use Rattle.dia_text.proofs.Parts.{texts}
use Rattle.dia_text.proofs.many.has_word.Given as goal

abbrev pub invariant-loop-index : goal.invariant-loop-index
invariant-loop-index l = has_word (take l.index (texts l.lines)) ≡ false
