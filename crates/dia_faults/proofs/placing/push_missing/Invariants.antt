use Rattle.std.proofs.Common.{◌-◌, ℕ}
use Rattle.dia_book.specs.declared.DRule.{DRule}
use Rattle.dia_faults.specs.States.{count_of}
use Rattle.dia_faults.proofs.Missing.{IsAdding}
use Rattle.dia_faults.proofs.placing.push_missing.Given as goal

abbrev pub invariant-loop-rule : goal.invariant-loop-rule
invariant-loop-rule l = IsAdding (λ (i : ℕ) (rule : DRule). count_of l.counts.counts.entries l.start i) l.rules l.from l.to l.at l.fn.found l.found l.rule

abbrev pub decreases-loop-rule : goal.decreases-loop-rule
decreases-loop-rule l = l.to - l.rule
