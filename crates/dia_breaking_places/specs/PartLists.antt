-- The parts of a dictionary's text.
use Rattle.std.specs.Prelude.{List}
use Rattle.dia_ccf.specs.declared.source.Decl.{Decl}
use Rattle.dia_ccf.specs.declared.source.Def.{Def}
use Rattle.dia_ccf.specs.declared.source.Source.{Source}

-- each list in the order of the text
pub record Parts : Type 0 where
  pub avps : List Decl
  pub groups : List Def
  pub commands : List Def

abbrev pub parts_of : Source → Parts
parts_of source = record { avps = source.avps.items; groups = source.groups.items; commands = source.commands.items }
