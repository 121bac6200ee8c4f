use Rattle.std.proofs.Common.{◌≡◌, ◌++◌, string_bytes, take}
use Rattle.dia_run.specs.AllFaults.{fault_lines}
use Rattle.dia_run.proofs.commands.faults.push_faults.Given as goal

abbrev pub invariant-loop-fault : goal.invariant-loop-fault
invariant-loop-fault g l = string_bytes l.text ≡ string_bytes l.initial.text ++ fault_lines (g.B.Book.meaning l.book) (take l.fault-index l.faults)
