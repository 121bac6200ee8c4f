-- AVPs that are made, as plain values.
use Rattle.std.specs.Prelude.{[]}
use Rattle.std.specs.Option.{option_map_or}
use Rattle.dia_wire.specs.Wire.{PlainAvp}
use Rattle.dia_breaking_data.specs.Shortest.{witness_bytes}
use Rattle.dia_answer.specs.declared.example.Example.{Example}

abbrev pub plain_example : Example → PlainAvp
plain_example e = record { code = e.code; flags = e.flags; vendor = e.vendor; bytes = option_map_or witness_bytes e.least [] }
