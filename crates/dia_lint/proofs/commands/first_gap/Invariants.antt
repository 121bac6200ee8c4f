use Rattle.std.proofs.Common.{◌≢◌, ℕ, ◌<◌, ◌≤◌, get_or}
use Rattle.dia_lint.proofs.commands.first_gap.Given as goal

abbrev pub invariant-loop-number : goal.invariant-loop-number
invariant-loop-number l = record { few : l.next ≤ l.number-index; none : (k : ℕ) → k < l.number-index → get_or l.numbers k 0 ≢ l.next }
