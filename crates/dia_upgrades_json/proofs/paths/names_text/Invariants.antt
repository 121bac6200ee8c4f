use Rattle.std.proofs.Common.{◌≡◌, map, take, string_bytes}
use Rattle.std.specs.List.{flat_map}
use Rattle.dia_upgrades_json.specs.Fields.{name_text}
use Rattle.dia_upgrades_json.proofs.paths.names_text.Given as goal

abbrev pub invariant-loop-name : goal.invariant-loop-name
invariant-loop-name l = string_bytes l.names ≡ flat_map name_text (map (λ name. name.now) (take l.name-index l.groups))
