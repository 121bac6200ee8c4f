use Rattle.std.proofs.Common.{◌≡◌, ◌*◌, ◌≤◌}
use Rattle.dia_text.specs.Dates.{days_of_months}
use Rattle.dia_text.proofs.dates.days_of_months.Given as goal

abbrev pub invariant-loop-month : goal.invariant-loop-month
invariant-loop-month l = record { days : l.days ≡ days_of_months l.leap l.month; small : l.days ≤ 31 * l.month }
