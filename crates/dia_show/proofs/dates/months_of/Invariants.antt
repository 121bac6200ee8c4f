use Rattle.std.proofs.Common.{◌≡◌, ◌+◌, ◌<◌}
use Rattle.dia_show.specs.Dates.{days_of_months}
use Rattle.dia_show.proofs.dates.months_of.Given as goal

abbrev pub invariant-loop-rest : goal.invariant-loop-rest
invariant-loop-rest l = record { parts : days_of_months l.leap l.months + l.rest ≡ l.days; month : l.months < 12 }

abbrev pub decreases-loop-rest : goal.decreases-loop-rest
decreases-loop-rest l = l.rest
