use Rattle.std.proofs.Common.{string_bytes}
use Rattle.dia_mask.specs.Replaced.{Numbering}
use Rattle.dia_mask.specs.Texts.{Agrees, Continues, GoesOn}
use Rattle.dia_mask.proofs.texts.Masking.mask.Given as goal

abbrev pub invariant-loop-character : goal.invariant-loop-character
invariant-loop-character l = GoesOn l.fn.self l.self × ((numbers : Numbering) → Agrees l.self.words numbers → Continues numbers l.self (string_bytes l.fn.self.masked) l.yielded)
