use Rattle.std.proofs.Common.{◌≡◌, ℕ, map, take}
use Rattle.std.specs.List.{filter_map, enumerate_from}
use Rattle.dia_book.specs.Dictionary.{PlainDefinition, plain_definition}
use Rattle.dia_compat.specs.declared.reasons.Failing.TheVariants.{NotBeside}
use Rattle.dia_compat.specs.PairTests.{plain_names, is_ready}
use Rattle.dia_compat.specs.Failings.{unless}
use Rattle.dia_compat.proofs.comparing.failing_heads.apart_from.Given as goal

abbrev pub invariant-loop-index : goal.invariant-loop-index
invariant-loop-index g l =
    l.all.items ≡ filter_map (λ (p : ℕ × PlainDefinition). unless (is_ready l.sides (map plain_names l.beside.keys) (plain_definition l.command) p.1) (NotBeside p.0))
    (enumerate_from 0 (take l.index (g.B.Book.meaning l.b).commands))
