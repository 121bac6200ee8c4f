use Rattle.std.proofs.Common.{◌≡◌, map, take}
use Rattle.dia_ccf.specs.Plain.{plain_source, plain_def}
use Rattle.dia_book.specs.Dictionary.{plain_definition}
use Rattle.dia_dict.specs.Resolution.{definition_of}
use Rattle.dia_dict.proofs.resolving.building.definitions.Given as goal

abbrev pub invariant-loop-def : goal.invariant-loop-def
invariant-loop-def l =
    map plain_definition l.definitions.items ≡ map (definition_of (plain_source l.names.source.now)) (map plain_def (take l.def-index l.defs))
