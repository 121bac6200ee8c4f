use Rattle.std.proofs.Common.{◌≡◌, ◌++◌, take}
use Rattle.dia_follow.specs.Departures.{recorded}
use Rattle.dia_follow.proofs.moment.findings.push_recorded.Given as goal

abbrev pub invariant-loop-reason : goal.invariant-loop-reason
invariant-loop-reason l = l.found.items ≡ l.initial.found.items ++ recorded (take l.reason-index l.rows)
