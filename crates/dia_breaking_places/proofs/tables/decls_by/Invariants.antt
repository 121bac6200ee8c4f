use Rattle.std.proofs.Common.{take}
use Rattle.dia_breaking_places.specs.Tables.{IsIndexOf}
use Rattle.dia_breaking_places.specs.Texts.{decl_text}
use Rattle.dia_breaking_places.proofs.tables.decls_by.Given as goal

abbrev pub invariant-loop-place : goal.invariant-loop-place
invariant-loop-place l = IsIndexOf (decl_text l.by) (take l.place l.decls) l.places
