use Rattle.std.proofs.Common.{◌≡◌, ◌*◌, ◌≤◌}
use Rattle.dia_text.specs.Dates.{days_of_years}
use Rattle.dia_text.proofs.dates.days_of_years.Given as goal

abbrev pub invariant-loop-year : goal.invariant-loop-year
invariant-loop-year l = record { days : l.days ≡ days_of_years l.year; small : l.days ≤ 366 * l.year }
