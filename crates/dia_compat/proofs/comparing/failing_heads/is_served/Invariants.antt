use Rattle.std.proofs.Common.{◌≡◌, false, take}
use Rattle.std.specs.List.{list_any}
use Rattle.dia_book.specs.Dictionary.{PlainDefinition}
use Rattle.dia_compat.specs.PairTests.{serves}
use Rattle.dia_compat.proofs.comparing.failing_heads.is_served.Given as goal

abbrev pub invariant-loop-index : goal.invariant-loop-index
invariant-loop-index g l = list_any (λ (d : PlainDefinition). serves l.head d.head) (take l.index (g.B.Book.meaning l.book).commands) ≡ false
