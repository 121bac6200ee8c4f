use Rattle.std.proofs.Common.{◌≡◌, map, take, filter}
use Rattle.std.specs.Prelude.{not, ◌||◌}
use Rattle.dia_wire.specs.declared.Key.{Key}
use Rattle.dia_book.specs.Dictionary.{DictEntry}
use Rattle.dia_compat.specs.Tests.{holds_key}
use Rattle.dia_compat.specs.PairTests.{is_alone}
use Rattle.dia_compat.proofs.comparing.covers.uncovered_keys.Given as goal

abbrev pub invariant-loop-index : goal.invariant-loop-index
invariant-loop-index g l =
    l.keys.items ≡ filter (λ (key : Key). not (holds_key l.paired.keys key || is_alone l.sides key)) (take l.index (map (λ (e : DictEntry). e.key) (g.A.Book.meaning l.a).entries))
