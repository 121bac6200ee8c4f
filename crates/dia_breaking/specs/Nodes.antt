-- The AVPs of which there is something to report, as the nodes of a walk.
use Rattle.std.specs.Option.{option_map}
use Rattle.dia_breaking_ways.specs.Walks.{PlainExits, PlainLevel, PlainNode}
use Rattle.dia_breaking.specs.declared.exits.Exits.{Exits}
use Rattle.dia_breaking.specs.declared.exits.Inner.{Inner}
use Rattle.dia_breaking.specs.declared.exits.Outlook.{Outlook}

abbrev pub exits_in : Exits → PlainExits
exits_in exits = record { listed = exits.listed.items; beside = exits.beside }

abbrev pub level_in : Inner → PlainLevel
level_in inner = record { least = inner.least; exits = exits_in inner.exits }

abbrev pub node_in : Outlook → PlainNode
node_in outlook = record { other = outlook.other; level = option_map level_in outlook.inner }
