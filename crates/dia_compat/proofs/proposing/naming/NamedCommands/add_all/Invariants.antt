use Rattle.std.proofs.Common.{map, take, drop, string_bytes}
use Rattle.dia_compat.specs.NamedCommands.{NamedSoFar}
use Rattle.dia_compat.proofs.proposing.naming.NamedCommands.add_all.Given as goal

abbrev pub invariant-loop-name : goal.invariant-loop-name
invariant-loop-name g l = NamedSoFar l.commands (map (λ n. string_bytes n) (take l.name-index l.names)) (map (λ n. string_bytes n) (drop l.name-index l.names)) l.self
