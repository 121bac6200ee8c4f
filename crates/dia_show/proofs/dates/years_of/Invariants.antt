use Rattle.std.proofs.Common.{◌≡◌, ◌+◌, ◌≤◌}
use Rattle.dia_show.specs.Dates.{days_of_years}
use Rattle.dia_show.proofs.dates.years_of.Given as goal

abbrev pub invariant-loop-rest : goal.invariant-loop-rest
invariant-loop-rest l = record { parts : days_of_years l.years + l.rest ≡ l.days; bound : l.years + l.rest ≤ l.days }

abbrev pub decreases-loop-rest : goal.decreases-loop-rest
decreases-loop-rest l = l.rest
