use Rattle.std.proofs.Common.{◌≡◌, ◌++◌, map, string_bytes, take}
use Rattle.std.specs.List.{flat_map}
use Rattle.dia_ccf.specs.Plain.{plain_decl}
use Rattle.dia_ccf.specs.CanonicalText.{declaration_line}
use Rattle.dia_ccf.proofs.rendering.put_declarations.Given as goal

abbrev pub invariant-loop-decl : goal.invariant-loop-decl
invariant-loop-decl l =
    string_bytes l.text ≡ string_bytes l.initial.text ++ flat_map declaration_line (map plain_decl (take l.decl-index l.decls))
