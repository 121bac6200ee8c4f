use Rattle.std.proofs.Common.{length}
use Rattle.dia_mask.specs.Replaced.{Numbering}
use Rattle.dia_mask.specs.Texts.{Agrees}
use Rattle.dia_mask.specs.Words.{Grows}
use Rattle.dia_mask.proofs.Replacing.{IsRuleSoFar}
use Rattle.dia_mask.proofs.texts.Masking.push_rule.Given as goal

abbrev pub invariant-loop-front : goal.invariant-loop-front
invariant-loop-front l = Grows l.fn.self.words l.self.words
    × ((numbers : Numbering) → Agrees l.self.words numbers → IsRuleSoFar numbers l.fn.self.data.items l.self.data.items l.bytes l.rest)

abbrev pub decreases-loop-front : goal.decreases-loop-front
decreases-loop-front l = length l.rest
