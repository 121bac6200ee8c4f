-- The parts of a dictionary's text, as they are in memory.
use Rattle.dia_breaking_places.specs.declared.places.Places.{Places}
pub use Rattle.dia_breaking_places.specs.PartLists.{Parts, parts_of}

abbrev pub parts_in : Places → Parts
parts_in places = record { avps = places.avps.decls.now; groups = places.groups.defs.now; commands = places.commands.defs.now }
