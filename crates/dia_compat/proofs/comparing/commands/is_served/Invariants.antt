use Rattle.std.proofs.Common.{◌≡◌, false, take}
use Rattle.std.specs.List.{list_any}
use Rattle.std.specs.Borrow.{Bor}
use Rattle.dia_book.specs.declared.Definition.{Definition}
use Rattle.dia_compat.specs.PairTests.{serves}
use Rattle.dia_compat.proofs.comparing.commands.is_served.Given as goal

abbrev pub invariant-loop-other : goal.invariant-loop-other
invariant-loop-other l = list_any (λ (d : Bor Definition). serves l.head d.now.head) (take l.other-index l.others) ≡ false
