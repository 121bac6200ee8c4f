use Rattle.std.proofs.Common.{◌≡◌, ◌++◌, map, take}
use Rattle.dia_ccf.specs.Plain.{plain_source, plain_decl}
use Rattle.dia_dict.specs.PlainMeaning.{entries_of}
use Rattle.dia_dict.specs.Resolution.{declared_entry}
use Rattle.dia_dict.proofs.resolving.building.push_declarations.Given as goal

abbrev pub invariant-loop-decl : goal.invariant-loop-decl
invariant-loop-decl l =
    entries_of l.entries.rows.items l.entries.groups.items ≡ entries_of l.initial.entries.rows.items l.initial.entries.groups.items
    ++ map (declared_entry (plain_source l.names.source.now)) (map plain_decl (take l.decl-index l.decls))
