use Rattle.std.proofs.Common.{◌≡◌, map, take}
use Rattle.dia_dict.specs.SourceChecks.{plain_finding}
use Rattle.dia_c_calls.specs.AllFaults.{fault_of}
use Rattle.dia_c_calls.specs.PlainFaults.{plain_fault}
use Rattle.dia_c_calls.proofs.findings.recorded_of.Given as goal

abbrev pub invariant-loop-finding : goal.invariant-loop-finding
invariant-loop-finding l = map plain_fault l.recorded.items ≡ map (fault_of l.text l.source) (map plain_finding (take l.finding-index l.findings))
