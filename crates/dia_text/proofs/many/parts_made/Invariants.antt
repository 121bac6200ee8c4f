use Rattle.std.specs.Prelude.{string_bytes}
use Rattle.dia_text.proofs.Parts.{IsReadTo}
use Rattle.dia_text.proofs.many.parts_made.Given as goal

abbrev pub invariant-loop-index : goal.invariant-loop-index
invariant-loop-index g l = IsReadTo l.named l.lines l.start l.index (string_bytes l.out)
