use Rattle.std.proofs.Common.{take}
use Rattle.dia_breaking_places.specs.Tables.{IsIndexOf}
use Rattle.dia_breaking_places.specs.Texts.{def_text}
use Rattle.dia_breaking_places.proofs.tables.defs_by.Given as goal

abbrev pub invariant-loop-place : goal.invariant-loop-place
invariant-loop-place l = IsIndexOf (def_text l.by) (take l.place l.defs) l.places
