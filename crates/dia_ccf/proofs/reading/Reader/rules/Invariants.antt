use Rattle.std.proofs.Common.{◌≡◌, ℕ, ◌-◌, ◌≤◌, List, [], map}
use Rattle.std.specs.Prelude.{IsTrue}
use Rattle.dia_ccf.specs.declared.source.Head.{Head}
use Rattle.dia_ccf.specs.Names.{fixed_first}
use Rattle.dia_ccf.specs.Plain.{PlainSource, plain_rule}
use Rattle.dia_ccf.specs.Machine.{Rules, all_fixed}
use Rattle.dia_ccf.specs.ReaderFunctions.{course}
use Rattle.dia_ccf.specs.Places.{RulesStand}
use Rattle.dia_ccf.proofs.reading.Reader.rules.Given as goal

abbrev pub invariant-loop-rules : goal.invariant-loop-rules
invariant-loop-rules l = record {
  read : (done : PlainSource) (name : List ℕ) (head : Head) → course (done, Rules (record { name = name; head = head; rules = [] })) l.initial.self
      ≡ course (done, Rules (record { name = name; head = head; rules = map plain_rule l.rules.items })) l.self;
  fixed : all_fixed (map plain_rule l.rules.items) ≡ l.only_fixed;
  ordered : IsTrue (fixed_first (map (λ r. r.kind) l.rules.items));
  placed : RulesStand l.self.text.now l.initial.self.taken l.rules.items l.self.taken;
  farther : l.initial.self.taken ≤ l.self.taken;
}

abbrev pub decreases-loop-rules : goal.decreases-loop-rules
decreases-loop-rules l = 1048577 - l.self.taken
