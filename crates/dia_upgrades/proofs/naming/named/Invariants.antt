use Rattle.std.proofs.Common.{◌≡◌, map, take, string_bytes, String}
use Rattle.std.specs.Global.{Global}
use Rattle.std.specs.List.{filter_map}
use Rattle.std.specs.Prelude.{All}
use Rattle.dia_compat.specs.PairTests.{command_named}
use Rattle.dia_upgrades.proofs.AskedCommands.{IsNamed}
use Rattle.dia_upgrades.proofs.naming.named.Given as goal

abbrev pub invariant-loop-name : goal.invariant-loop-name
invariant-loop-name g l =
    let da = g.A.Book.meaning l.a in
    All (λ name. IsNamed da (string_bytes name)) (take l.name-index l.names)
    × (l.places.items ≡ filter_map (command_named da) (map (λ (name : String Global). string_bytes name) (take l.name-index l.names)))
