use Rattle.std.proofs.Common.{◌≡◌, ◌≤◌, length, take}
use Rattle.dia_run.specs.Texts.{digits_of}
use Rattle.dia_mask_text.proofs.spelling.without_white_end.Given as goal

abbrev pub invariant-loop-length : goal.invariant-loop-length
invariant-loop-length l = (l.length ≤ length l.text) × (digits_of (take l.length l.text) ≡ digits_of l.text)

abbrev pub decreases-loop-length : goal.decreases-loop-length
decreases-loop-length l = l.length
