-- A tally that records each of some rules that follow one another.
use Rattle.std.specs.Prelude.{ℕ, zero, suc, ◌+◌, List, [], ◌∷◌}
use Rattle.dia_check.specs.declared.open_levels.tally.Met.{Met}
use Rattle.dia_check.specs.Tallies.{count_in}

-- so many rules from one on, each with the count that a tally records
abbrev pub laid_out : List Met → ℕ → ℕ → List Met
laid_out tally from zero = []
laid_out tally from (suc many) = record { rule = from; count = count_in tally from } ∷ laid_out tally (from + 1) many
