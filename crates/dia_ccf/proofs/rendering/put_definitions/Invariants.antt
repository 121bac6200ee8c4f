use Rattle.std.proofs.Common.{◌≡◌, ◌++◌, map, string_bytes, take}
use Rattle.std.specs.List.{flat_map}
use Rattle.dia_ccf.specs.Plain.{plain_def}
use Rattle.dia_ccf.specs.CanonicalText.{definition_lines}
use Rattle.dia_ccf.proofs.rendering.put_definitions.Given as goal

abbrev pub invariant-loop-def : goal.invariant-loop-def
invariant-loop-def l =
    string_bytes l.text ≡ string_bytes l.initial.text ++ flat_map definition_lines (map plain_def (take l.def-index l.defs))
