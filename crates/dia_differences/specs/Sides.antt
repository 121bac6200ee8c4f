-- The two dictionaries.
use Rattle.dia_differences.specs.declared.sides.Side.{Side}
use Rattle.dia_differences.specs.declared.sides.Side.TheVariants.{First, Second}

abbrev pub other_side : Side → Side
other_side First = Second
other_side Second = First
