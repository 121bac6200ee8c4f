use Rattle.std.proofs.Common.{◌≡◌, ◌≤◌, ◌+◌, drop}
use Rattle.std.specs.Prelude.{count_by}
use Rattle.dia_wire.specs.Wire.{key_of}
use Rattle.dia_answer.specs.Failed.{begun, counts}
use Rattle.dia_answer.specs.Helds.{plains}
use Rattle.dia_answer.proofs.around.Level.count_before.Given as goal

abbrev pub invariant-loop-held : goal.invariant-loop-held
invariant-loop-held l = record {
  total : l.count + count_by (λ v. counts l.self.rules.now l.subject (key_of v)) (begun l.place (plains (drop l.held-index l.self.avps.items))) ≡ count_by (λ v. counts l.self.rules.now l.subject (key_of v)) (begun l.self.place (plains l.self.avps.items));
  small : l.count ≤ l.held-index;
}
