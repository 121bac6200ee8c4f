-- What the program takes the parts of a value for.
use Rattle.std.specs.Prelude.{ℕ, List, Option}
use Rattle.dia_text.specs.declared.value_parts.Part.{Part}
use Rattle.dia_text.specs.declared.value_parts.Part.TheVariants.{Decimal, Pair, Escaped}
use Rattle.dia_text.specs.Values.{decimal_byte, byte_pair, escaped}

abbrev pub part_bytes : Part → List ℕ → Option (List ℕ)
part_bytes Decimal text = decimal_byte text
part_bytes Pair text = byte_pair text
part_bytes Escaped text = escaped text
